-- One round over the branches of a block.
use Rattle.std.specs.Prelude.{◌≡◌, ◌⊎◌, ◌+◌, ◌≤◌, true, false, ℕ, suc, Some, List, [], ◌∷◌, length, map}
use Rattle.logic_meaning.specs.Formula.{Yes}
use Rattle.logic_meaning.specs.Some.{Among, SomeOf, EachOf}
use Rattle.logic_meaning.specs.Context as meaning
use Rattle.logic_meaning.specs.Form.{Form}
use Rattle.logic_meaning.specs.Sizes.{nodes}
use Rattle.logic_meaning.specs.Tree.{Tree}
use Rattle.logic_meaning.specs.Answer.{Place}
use Rattle.logic_meaning.specs.Steps.{Result, result_at}
use Rattle.normal_atoms.specs.declared.atoms.Context.{Context}
use Rattle.normal_atoms.specs.Atoms.{context_of, atom_of}
use Rattle.logic_meaning.specs.NormalForm.{normal_atom}
use Rattle.shape_theory.specs.Texts.{IsNoLarger}
use Rattle.nnf_trees.specs.Placed.{all_within}
use Rattle.test_points.specs.declared.points.TestPoint.{TestPoint}
use Rattle.test_points.specs.Points.{place_of}
use Rattle.branch_points.specs.declared.choice.Chosen.{Chosen}
use Rattle.branch_points.specs.Chosen.{IsChosen, NeedsCounting, conjuncts}
use Rattle.logic_meaning.specs.declared.form.VarId.{VarId}
use Rattle.formula_tree.specs.declared.shape.Shape.{Shape}
use Rattle.formula_store.specs.declared.id.FormulaId.{FormulaId}
use Rattle.formula_store.specs.Nodes.{tree}
use Rattle.case_theory.specs.Pending.{Pending, IsRest, children}
use Rattle.case_theory.specs.Points.{ArePointsFor}
use Rattle.logic_meaning.specs.Roots.{IsRoot}
use Rattle.logic_meaning.specs.Direct.{first_equation}
use Rattle.case_theory.specs.Children.{AreChildren}
use Rattle.branch_rounds.specs.declared.work.Work.{Work}
use Rattle.branch_rounds.specs.Branches.{Seen, IsOpen, AllStand, StandsFor, ArePendingOf, Takes, numbers}

-- the branches have one name less
abbrev pub HaveFewer : List VarId → List Seen → Type 0
HaveFewer left bs = EachOf (λ (b : Seen). suc (length b.left) ≡ length left) bs

-- what the branches stand for is what comes of p at the points of a name that is left in it
pub record AreChildrenFor (w : Work) (nodes : List (Shape FormulaId)) (p : Pending) (bs : List Seen) : Type 0 where
  pub name : ℕ
  pub rest : List ℕ
  pub points : List Place
  pub results : List Result
  pub listed : Among p.left name
  pub is_rest : IsRest name p.left rest
  pub suffice : ArePointsFor (context_of w.context) name p.tree points
  pub are : AreChildren (context_of w.context) (map atom_of w.assumed.now) name p.tree points results
  pub stand : AllStand nodes bs (children name p rest results)

-- a branch of the old nodes becomes these of the new ones, each of which has one name less
pub record IsStep (w : Work) (old : List (Shape FormulaId)) (b : Seen) (new : List (Shape FormulaId)) (bs : List Seen) : Type 0 where
  pub are_open : EachOf (IsOpen w new) bs
  pub fewer : HaveFewer b.left bs
  pub goes_on : (p : Pending) → StandsFor old b p → AreChildrenFor w new p bs

-- all branches become these
pub record IsRound (w : Work) (old : List (Shape FormulaId)) (bs : List Seen) (new : List (Shape FormulaId)) (cs : List Seen) : Type 0 where
  pub are_open : EachOf (IsOpen w new) cs
  pub fewer : (n : ℕ) → EachOf (λ (b : Seen). length b.left ≡ suc n) bs → EachOf (λ (b : Seen). length b.left ≡ n) cs
  pub goes_on : (matrix : Tree) (block : List ℕ) → ArePendingOf w matrix block old bs → ArePendingOf w matrix block new cs

-- one branch alone, which is true
abbrev pub IsSettled : List (Shape FormulaId) → List Seen → Type 0
IsSettled nodes bs = (b : Seen) × (bs ≡ b ∷ []) × (tree nodes b.formula ≡ Yes)

-- each of the branches is put last, or is there
abbrev pub IsSpreadOver : List Seen → List Seen → List Seen → Type 0
IsSpreadOver old [] new = new ≡ old
IsSpreadOver old (b ∷ bs) new = (mid : List Seen) × Takes old b mid × IsSpreadOver mid bs new

-- A number passes the limit at the points of a name that is left, or each of the names has to be counted.
abbrev pub PassesAt : Context → Tree → List VarId → Type 0
PassesAt c f left =
    NeedsCounting f (numbers left) ⊎ ((ch : Chosen) × IsChosen c f left ch × SomeOf (λ (t : TestPoint). all_within (context_of c) t.name.number (place_of t) f ≡ false) ch.points.items)

-- ---- one point alone

-- x alone is left, and one point is enough: s, the root of the first conjunct of f that is an equation in x. No number that is formed
-- for an atom there passes the limit, and the nodes that are left pay for it.
pub record IsDirectAt (c : meaning.Context) (left : ℕ) (f : Tree) (names : List VarId) (x : VarId) (s : Place) : Type 0 where
  pub alone : names ≡ x ∷ []
  pub equation : (e : Form) × (first_equation x.number (conjuncts f) ≡ Some e) × IsRoot c x.number e s
  pub within : all_within c x.number s f ≡ true
  pub paid : nodes f + 2 ≤ left

-- there is no more than one branch, and it is no larger than f with x at the place
pub record IsLeftAlone (c : meaning.Context) (x : ℕ) (s : Place) (f : Tree) (nodes : List (Shape FormulaId)) (bs : List Seen) : Type 0 where
  pub few : length bs ≤ 1
  pub no_larger : EachOf (λ (b : Seen). IsNoLarger (result_at c (normal_atom c) x s f) (tree nodes b.formula)) bs
