-- Branches of a block over the nodes of a store, and what they stand for.
use Rattle.std.specs.HashMap.{get}
use Rattle.std.specs.Prelude.{◌≡◌, ◌⊎◌, ℕ, List, [], ◌∷◌, ◌++◌, Some, slice_get, map, reverse, nat_eq, if◌then◌else◌}
use Rattle.formula_laws.specs.StandsOnce.{StandsOnce}
use Rattle.logic_meaning.specs.Some.{SomeOf, EachOf}
use Rattle.logic_meaning.specs.Tree.{Tree}
use Rattle.logic_meaning.specs.Answers.{answers_of}
use Rattle.elimination_theory.specs.Theorems.{IsTidy}
use Rattle.normal_atoms.specs.Atoms.{context_of, atom_of}
use Rattle.logic_meaning.specs.declared.form.VarId.{VarId}
use Rattle.formula_tree.specs.declared.shape.Shape.{Shape}
use Rattle.formula_store.specs.declared.id.FormulaId.{FormulaId}
use Rattle.formula_store.specs.Nodes.{tree, IsId}
use Rattle.formula_store.specs.Tables.{TableOf, same_id}
use Rattle.test_points.specs.declared.points.TestPoint.{TestPoint}
use Rattle.test_points.specs.Points.{answer_of, IsTestPoint}
use Rattle.case_theory.specs.Pending.{Pending, ArePending}
use Rattle.branch_rounds.specs.declared.children.Child.{Child}
use Rattle.branch_rounds.specs.declared.work.Work.{Work}

-- a branch without where its lists lie
pub record Seen : Type 0 where
  pub formula : FormulaId
  pub points : List TestPoint
  pub left : List VarId

-- the numbers of names
abbrev pub numbers : List VarId → List ℕ
numbers names = map (λ (y : VarId). y.number) names

-- the names but for one
abbrev pub others_of : VarId → List VarId → List VarId
others_of x [] = []
others_of x (y ∷ names) = if nat_eq y.number x.number then others_of x names else y ∷ others_of x names

-- the branch with the child's point behind the others
abbrev pub branch_at : List TestPoint → List VarId → Child → Seen
branch_at points left k = record { formula = k.formula; points = points ++ k.point ∷ []; left = left }

-- the second has the formula of the first, and the same names left
abbrev pub IsAlike : Seen → Seen → Type 0
IsAlike b d = (d.formula ≡ b.formula) × (d.left ≡ b.left)

-- the branches with one more at their end, unless one like it is among them
abbrev pub Takes : List Seen → Seen → List Seen → Type 0
Takes old b new = (new ≡ old ++ b ∷ []) ⊎ ((new ≡ old) × SomeOf (IsAlike b) old)

-- a branch with the formula stands at each place that the table has for one
abbrev pub ArePlaces : List Seen → TableOf ℕ → Type 0
ArePlaces bs table = (id : FormulaId) (p : ℕ) → get same_id table id ≡ Some p → (b : Seen) × (slice_get bs p ≡ Some b) × (b.formula ≡ id)

-- a branch that can be worked on: a tidy formula of the nodes, well-formed points, and each name that is left once
pub record IsOpen (w : Work) (nodes : List (Shape FormulaId)) (b : Seen) : Type 0 where
  pub is : IsId nodes b.formula
  pub tidy : IsTidy (context_of w.context) (tree nodes b.formula)
  pub points : EachOf IsTestPoint b.points
  pub once : StandsOnce (numbers b.left)

-- it stands for a branch of the theory
pub record StandsFor (nodes : List (Shape FormulaId)) (b : Seen) (p : Pending) : Type 0 where
  pub formula : tree nodes b.formula ≡ p.tree
  pub answers : map answer_of (reverse b.points) ≡ answers_of p.steps
  pub left : numbers b.left ≡ p.left

-- each for one, in order
abbrev pub AllStand : List (Shape FormulaId) → List Seen → List Pending → Type 0
AllStand nodes [] [] = Unit {0}
AllStand nodes [] (p ∷ ps) = ⊥
AllStand nodes (b ∷ bs) [] = ⊥
AllStand nodes (b ∷ bs) (p ∷ ps) = StandsFor nodes b p × AllStand nodes bs ps

-- the branches stand for some that together are the block of the matrix, under the assumptions
pub record ArePendingOf (w : Work) (matrix : Tree) (block : List ℕ) (nodes : List (Shape FormulaId)) (bs : List Seen) : Type 0 where
  pub meant : List Pending
  pub stand : AllStand nodes bs meant
  pub pending : ArePending (context_of w.context) (map atom_of w.assumed.now) matrix block meant

-- and no name is left in any of them
pub record AreBranchesOf (w : Work) (matrix : Tree) (block : List ℕ) (nodes : List (Shape FormulaId)) (bs : List Seen) : Type 0 where
  pub are_open : EachOf (IsOpen w nodes) bs
  pub pending : ArePendingOf w matrix block nodes bs
  pub ended : EachOf (λ (b : Seen). b.left ≡ []) bs
