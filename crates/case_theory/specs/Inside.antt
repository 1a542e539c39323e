-- The list of branches of a block inside a formula. No answers are owed there, so that the steps of a branch say nothing, and a
-- branch that is a disjunction may be split.
use Rattle.std.specs.Prelude.{◌≡◌, ℕ, List, [], ◌∷◌, ◌++◌}
use Rattle.logic_meaning.specs.Context.{Context}
use Rattle.logic_meaning.specs.Formula.{Or, none, also}
use Rattle.logic_meaning.specs.Fold.{fold_list}
use Rattle.logic_meaning.specs.declared.junction.Junction.TheVariants.{Disjunction}
use Rattle.logic_meaning.specs.Some.{Among, EachOf}
use Rattle.formula_laws.specs.StandsOnce.{StandsOnce}
use Rattle.logic_meaning.specs.Atom.{Atom}
use Rattle.logic_meaning.specs.Answer.{Place}
use Rattle.logic_meaning.specs.Tree.{Tree, Trees, IsFree}
use Rattle.logic_meaning.specs.Steps.{Result}
use Rattle.elimination_theory.specs.Theorems.{IsTidy}
use Rattle.case_theory.specs.CaseTree.{without_all}
use Rattle.case_theory.specs.Under.{Lack}
use Rattle.case_theory.specs.Block.{ex_all}
use Rattle.case_theory.specs.Points.{ArePointsFor}
use Rattle.case_theory.specs.Children.{AreChildren}
use Rattle.case_theory.specs.Worked.{IsWorked}
use Rattle.case_theory.specs.Pending.{Pending, ArePending, AreTogether, IsRest, children, IsCovered, AreEnded, pending_trees}

-- The names that are left are of the block, each once. The tree has free names of the matrix, and of the block only names that are
-- left.
pub record IsPendingInside (c : Context) (matrix : Tree) (block : List ℕ) (b : Pending) : Type 0 where
  pub tidy : IsTidy c b.tree
  pub once : StandsOnce b.left
  pub of_block : (y : ℕ) → Among b.left y → Among block y
  pub names : (y : ℕ) → IsFree b.tree y → IsFree matrix y × (Among block y → Among b.left y)

-- Together the branches are the block of the matrix.
pub record ArePendingInside (c : Context) (ks : List Atom) (matrix : Tree) (block : List ℕ) (bs : List Pending) : Type 0 where
  pub lack : EachOf (Lack ks) block
  pub each : EachOf (IsPendingInside c matrix block) bs
  pub together : AreTogether c ks matrix block bs

-- ---- how it begins

-- Branches whose steps lead from the matrix are such branches: so it begins as the matrix alone.
abbrev pub PendingIsInside : Context → Type 0
PendingIsInside c = (ks : List Atom) (matrix : Tree) (block : List ℕ) (bs : List Pending) → ArePending c ks matrix block bs → ArePendingInside c ks matrix block bs

-- ---- one step

-- A branch anywhere in the list may be replaced by its children at the points of any name that is left in it.
abbrev pub InsideGoesOn : Context → Type 0
InsideGoesOn c = (ks : List Atom) (matrix : Tree) (block : List ℕ) (before : List Pending) (b : Pending) (rest : List Pending) (x : ℕ) (left : List ℕ) (points : List Place) (rs : List Result) →
    ArePendingInside c ks matrix block (before ++ b ∷ rest) → Among b.left x → IsRest x b.left left → ArePointsFor c x b.tree points → AreChildren c ks x b.tree points rs →
    ArePendingInside c ks matrix block ((before ++ children x b left rs) ++ rest)

-- the branch with each of the formulas in turn
abbrev pub parts : Pending → Trees → List Pending
parts b none = []
parts b (also f fs) = record { tree = f; steps = b.steps; left = b.left } ∷ parts b fs

-- A branch that is a disjunction may be split into its members.
abbrev pub InsideIsSplit : Context → Type 0
InsideIsSplit c = (ks : List Atom) (matrix : Tree) (block : List ℕ) (before : List Pending) (b : Pending) (rest : List Pending) (fs : Trees) →
    ArePendingInside c ks matrix block (before ++ b ∷ rest) → b.tree ≡ Or fs → ArePendingInside c ks matrix block ((before ++ parts b fs) ++ rest)

-- A branch that others cover may go.
abbrev pub InsideCoveredMayGo : Context → Type 0
InsideCoveredMayGo c = (ks : List Atom) (matrix : Tree) (block : List ℕ) (before : List Pending) (b : Pending) (rest : List Pending) →
    ArePendingInside c ks matrix block (before ++ b ∷ rest) → IsCovered c ks b (before ++ rest) → ArePendingInside c ks matrix block (before ++ rest)

-- ---- its end

-- With no name left, a block over a formula that was worked on under the atoms without its names is worked on, under all of them,
-- to the disjunction of its branches.
abbrev pub InsideIsWorked : Context → Type 0
InsideIsWorked c = (ks : List Atom) (block : List ℕ) (f g : Tree) (bs : List Pending) → IsWorked c (without_all block ks) f g →
    ArePendingInside c (without_all block ks) g block bs → AreEnded bs → IsWorked c ks (ex_all block f) (fold_list Disjunction (pending_trees bs))
