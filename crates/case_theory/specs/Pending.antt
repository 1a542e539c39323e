-- The list of branches of a block that are worked on: how it begins, one step for a name, and what it is at its end.
use Rattle.std.specs.Prelude.{◌≡◌, ℕ, ◌↔◌, List, [], ◌∷◌, ◌++◌, map}
use Rattle.logic_meaning.specs.Context.{Context}
use Rattle.logic_meaning.specs.Point.{Point, Of}
use Rattle.logic_meaning.specs.Every.{Every}
use Rattle.logic_meaning.specs.Formula.{Yes, none, also}
use Rattle.logic_meaning.specs.Fold.{fold_list}
use Rattle.logic_meaning.specs.declared.junction.Junction.TheVariants.{Disjunction}
use Rattle.logic_meaning.specs.Some.{SomeOf, Among, EachOf}
use Rattle.formula_laws.specs.StandsOnce.{StandsOnce}
use Rattle.logic_meaning.specs.Atom.{Atom}
use Rattle.logic_meaning.specs.Answer.{Place}
use Rattle.logic_meaning.specs.Tree.{Tree, Trees, TrueAt, IsFree}
use Rattle.logic_meaning.specs.Answers.{Step, answers_of}
use Rattle.logic_meaning.specs.Steps.{Result}
use Rattle.logic_meaning.specs.NormalForm.{IsNormal}
use Rattle.logic_meaning.specs.Cases.{Case, case_matrix, case_names}
use Rattle.elimination_theory.specs.CasesOver.{AreOver}
use Rattle.elimination_theory.specs.Theorems.{IsTidy}
use Rattle.logic_meaning.specs.AnswerParts.{answer_names}
use Rattle.case_theory.specs.PutThrough.{AreTrue}
use Rattle.case_theory.specs.CaseTree.{without_all, IsCaseTree}
use Rattle.case_theory.specs.Under.{Lack, LeadUnder}
use Rattle.case_theory.specs.Block.{ex_all, Somewhere}
use Rattle.case_theory.specs.Points.{ArePointsFor}
use Rattle.case_theory.specs.Children.{AreChildren}
use Rattle.case_theory.specs.Worked.{IsWorked}

-- a formula that is left, the steps that led to it, the last one first, and the names of the block that are still to be eliminated
pub record Pending : Type 0 where
  pub tree : Tree
  pub steps : List Step
  pub left : List ℕ

-- the names that are eliminated
abbrev pub eliminated : Pending → List ℕ
eliminated b = answer_names (answers_of b.steps)

-- the names of the block are those done and those left, each once in one of the two
pub record ShareBlock (block done left : List ℕ) : Type 0 where
  pub once : StandsOnce (done ++ left)
  pub same : (y : ℕ) → Among (done ++ left) y ↔ Among block y

-- the name is one of the matrix, and not eliminated
abbrev pub StaysFree : Tree → Pending → ℕ → Type 0
StaysFree matrix b y = IsFree matrix y × ¬ (Among (eliminated b) y)

-- The steps of the branch lead from the matrix to its tree, where the atoms are true. The tree and the places have free names of
-- the matrix that are not eliminated; a place has also names that are answered before it.
pub record IsPending (c : Context) (ks : List Atom) (matrix : Tree) (block : List ℕ) (b : Pending) : Type 0 where
  pub lead : LeadUnder c ks b.steps matrix b.tree
  pub tidy : IsTidy c b.tree
  pub share : ShareBlock block (eliminated b) b.left
  pub names : (y : ℕ) → IsFree b.tree y → StaysFree matrix b y
  pub over : AreOver (StaysFree matrix b) (answers_of b.steps)

-- where the atoms are true, the block of the matrix is true exactly where some branch is, its names that are left moved
abbrev pub AreTogether : Context → List Atom → Tree → List ℕ → List Pending → Type 0
AreTogether c ks matrix block bs = (p : Point ℕ) → Of c p → AreTrue ks p → TrueAt c (ex_all block matrix) p ↔ SomeOf (λ (b : Pending). Somewhere c (Among b.left) b.tree p) bs

-- Together the branches are the block of the matrix: each where its names that are left may move.
pub record ArePending (c : Context) (ks : List Atom) (matrix : Tree) (block : List ℕ) (bs : List Pending) : Type 0 where
  pub lack : EachOf (Lack ks) block
  pub each : EachOf (IsPending c ks matrix block) bs
  pub together : AreTogether c ks matrix block bs

-- ---- how it begins

abbrev pub begun : Tree → List ℕ → Pending
begun matrix block = record { tree = matrix; steps = []; left = block }

-- It begins as the matrix alone.
abbrev pub PendingBegins : Context → Type 0
PendingBegins c = (ks : List Atom) (matrix : Tree) (block : List ℕ) → IsTidy c matrix → EachOf (Lack ks) block → StandsOnce block →
    ArePending c ks matrix block (begun matrix block ∷ [])

-- ---- one step

-- the names of the list but for x, each once, in any order
pub record IsRest (x : ℕ) (names rest : List ℕ) : Type 0 where
  pub once : StandsOnce rest
  pub same : (y : ℕ) → Among rest y ↔ (¬ (x ≡ y) × Among names y)

-- a name taken out of a list leaves the rest
abbrev pub TakingOutLeavesRest : Type 0
TakingOutLeavesRest = (before after : List ℕ) (x : ℕ) → StandsOnce (before ++ x ∷ after) → IsRest x (before ++ x ∷ after) (before ++ after)

-- the branch with x put at the place of the result, of which the tree of the result is left
abbrev pub child : ℕ → Pending → List ℕ → Result → Pending
child x b left r = record { tree = r.tree; steps = record { name = x; place = r.place; branch = b.tree } ∷ b.steps; left = left }

abbrev pub children : ℕ → Pending → List ℕ → List Result → List Pending
children x b left rs = map (child x b left) rs

-- A branch anywhere in the list may be replaced by its children at the points of any name that is left in it.
abbrev pub PendingGoesOn : Context → Type 0
PendingGoesOn c = (ks : List Atom) (matrix : Tree) (block : List ℕ) (before : List Pending) (b : Pending) (rest : List Pending) (x : ℕ) (left : List ℕ) (points : List Place) (rs : List Result) →
    ArePending c ks matrix block (before ++ b ∷ rest) → Among b.left x → IsRest x b.left left → ArePointsFor c x b.tree points → AreChildren c ks x b.tree points rs →
    ArePending c ks matrix block ((before ++ children x b left rs) ++ rest)

-- ---- a branch that others cover

-- where the atoms are true, the branch is true somewhere only where some other is
abbrev pub IsCovered : Context → List Atom → Pending → List Pending → Type 0
IsCovered c ks b others =
    (p : Point ℕ) → Of c p → AreTrue ks p → Somewhere c (Among b.left) b.tree p → SomeOf (λ (d : Pending). Somewhere c (Among d.left) d.tree p) others

-- Such a branch may go.
abbrev pub CoveredMayGo : Context → Type 0
CoveredMayGo c = (ks : List Atom) (matrix : Tree) (block : List ℕ) (before : List Pending) (b : Pending) (rest : List Pending) → ArePending c ks matrix block (before ++ b ∷ rest) →
    IsCovered c ks b (before ++ rest) → ArePending c ks matrix block (before ++ rest)

-- It is one where another has the same formula, and its names that are left, or is true.
pub record OneCovers (c : Context) (ks : List Atom) (b : Pending) (others : List Pending) (d : Pending) : Type 0 where
  pub equal : d.tree ≡ b.tree → ((y : ℕ) → Among b.left y → Among d.left y) → IsCovered c ks b others
  pub true_one : d.tree ≡ Yes → IsCovered c ks b others

abbrev pub OtherMayCover : Context → Type 0
OtherMayCover c = (ks : List Atom) (b : Pending) (others : List Pending) (d : Pending) → Among others d → OneCovers c ks b others d

-- ---- its end

-- no name is left
abbrev pub AreEnded : List Pending → Type 0
AreEnded bs = EachOf (λ (b : Pending). b.left ≡ []) bs

abbrev pub case_of_pending : Pending → Case
case_of_pending b = record { guard = b.tree; answers = answers_of b.steps }

abbrev pub cases_of_pending : List Pending → List Case
cases_of_pending bs = map case_of_pending bs

-- With no name left the branches are cases as elimination promises them.
abbrev pub PendingEnds : Context → Type 0
PendingEnds c = (theory : List Atom) (f matrix : Tree) (bs : List Pending) → Every (IsNormal c) f → IsWorked c (without_all (case_names f) theory) (case_matrix f) matrix →
    ArePending c (without_all (case_names f) theory) matrix (case_names f) bs → AreEnded bs → IsCaseTree c theory f matrix (cases_of_pending bs)

-- ---- a block inside a formula

abbrev pub pending_trees : List Pending → Trees
pending_trees [] = none
pending_trees (b ∷ bs) = also b.tree (pending_trees bs)

-- A block of ex over a formula that was worked on under the atoms without its names is worked on, under all of them, to the
-- disjunction of its branches.
abbrev pub BlockIsWorked : Context → Type 0
BlockIsWorked c = (ks : List Atom) (block : List ℕ) (f g : Tree) (bs : List Pending) → IsWorked c (without_all block ks) f g →
    ArePending c (without_all block ks) g block bs → AreEnded bs → IsWorked c ks (ex_all block f) (fold_list Disjunction (pending_trees bs))
