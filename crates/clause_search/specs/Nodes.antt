-- Clauses of the nodes of a formula, where the variable of a node is its place.
use Rattle.std.specs.Prelude.{◌≡◌, ℕ, true, List, [], ◌∷◌, Some, slice_get}
use Rattle.logic_meaning.specs.Context.{Context}
use Rattle.logic_meaning.specs.Point.{Point}
use Rattle.logic_meaning.specs.Some.{EachOf}
use Rattle.logic_meaning.specs.Tree.{Tree}
use Rattle.formula_tree.specs.declared.shape.Shape.{Shape}
use Rattle.formula_store.specs.declared.id.FormulaId.{FormulaId}
use Rattle.formula_store.specs.Nodes.{tree}
use Rattle.clause_theory.specs.declared.clause.Literal.{Literal}
use Rattle.clause_theory.specs.declared.clause.Clause.{Clause}
use Rattle.clause_theory.specs.Clauses.{Holds}

-- each place stands for the node there
abbrev pub StandsForNodes : List (Shape FormulaId) → List FormulaId → (ℕ → Tree) → Type 0
StandsForNodes nodes ids f = (k : ℕ) (id : FormulaId) → slice_get ids k ≡ Some id → f k ≡ tree nodes id

-- the literals hold as a clause at every point of both theories
abbrev pub IsNodeLaw : List (Shape FormulaId) → List FormulaId → List Literal → Type 0
IsNodeLaw nodes ids ls = (f : ℕ → Tree) → StandsForNodes nodes ids f → (c : Context) (p : Point ℕ) → Holds f c p ls

-- so do each of the clauses
abbrev pub AreNodeLaws : List (Shape FormulaId) → List FormulaId → List Clause → Type 0
AreNodeLaws nodes ids clauses = EachOf (λ k. IsNodeLaw nodes ids k.literals.items) clauses

-- the place stands for the formula
abbrev pub StandsAt : List (Shape FormulaId) → List FormulaId → ℕ → Tree → Type 0
StandsAt nodes ids place t = (f : ℕ → Tree) → StandsForNodes nodes ids f → f place ≡ t

-- each literal says that the member in its place is true
abbrev pub SayMembers : List (Shape FormulaId) → List FormulaId → List FormulaId → List Literal → Type 0
SayMembers nodes ids [] [] = Unit {0}
SayMembers nodes ids (m ∷ ms) (l ∷ ls) = (StandsAt nodes ids l.variable (tree nodes m) × (l.holds ≡ true)) × SayMembers nodes ids ms ls
SayMembers nodes ids [] (l ∷ ls) = ⊥
SayMembers nodes ids (m ∷ ms) [] = ⊥
