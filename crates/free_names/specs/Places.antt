-- The free numbers of a written formula over a store, and those in scope; and its quantifiers.
use Rattle.std.specs.Prelude.{ℕ, List, Bool, ◌||◌, ◌⊎◌}
use Rattle.std.specs.Ordering.{nat_cmp}
use Rattle.std.specs.BTreeSet.{BTreeSet, contains}
use Rattle.logic_meaning.specs.Every.{FreeInSome}
use Rattle.logic_meaning.specs.Formula.{One}
use Rattle.logic_meaning.specs.Replaced.{replaced, all_replaced}
use Rattle.language_meaning.specs.Trees.{FormulaTree, FormulaTrees}
use Rattle.formula_tree.specs.declared.shape.Shape.{Shape}
use Rattle.language_meaning.specs.Causes.{atom_in_place}
use Rattle.language_meaning.specs.Resolving.{IsFreeInPlace, MentionsNumber}
use Rattle.logic_meaning.specs.Names.{place}
use Rattle.logic_meaning.specs.Quantified.{has_quantifier}
use Rattle.formula_store.specs.declared.id.FormulaId.{FormulaId}
use Rattle.formula_store.specs.Nodes.{tree}
use Rattle.formula_resolving.specs.BoundIds.{answered_trees}

-- the number is free in the formula with the bound formulas and the answers, both of the store, in their places
abbrev pub IsFreeHere : List (Shape FormulaId) → List FormulaId → List (List ℕ × FormulaId) → List (List ℕ) → FormulaTree → ℕ → Type 0
IsFreeHere nodes inner bound names f n = IsFreeInPlace (answered_trees (tree nodes) inner bound) (place names) f n

-- the number is free in one of two formulas
abbrev pub IsFreeInEither : List (Shape FormulaId) → List FormulaId → List (List ℕ × FormulaId) → List (List ℕ) → FormulaTree → FormulaTree → ℕ → Type 0
IsFreeInEither nodes inner bound names f g n = IsFreeHere nodes inner bound names f n ⊎ IsFreeHere nodes inner bound names g n

-- the number is free in some of the formulas
abbrev pub AreFreeHere : List (Shape FormulaId) → List FormulaId → List (List ℕ × FormulaId) → List (List ℕ) → FormulaTrees → ℕ → Type 0
AreFreeHere nodes inner bound names fs n = FreeInSome (MentionsNumber (answered_trees (tree nodes) inner bound) (place names)) (all_replaced One (place names) fs) n

-- whether an entry has the number, or a quantifier around
abbrev pub in_scope : BTreeSet ℕ → BTreeSet ℕ → ℕ → Bool
in_scope valued opened n = contains nat_cmp valued n || contains nat_cmp opened n

-- the same for the number of a name
abbrev pub name_in_scope : List (List ℕ) → BTreeSet ℕ → BTreeSet ℕ → List ℕ → Bool
name_in_scope names valued opened x = in_scope valued opened (place names x)

-- whether a quantifier stands in the formula with the bound formulas and the answers, both of the store, in their places
abbrev pub is_quantified_here : List (Shape FormulaId) → List FormulaId → List (List ℕ × FormulaId) → FormulaTree → Bool
is_quantified_here nodes inner bound f = has_quantifier (replaced (atom_in_place (answered_trees (tree nodes) inner bound)) (λ x. 0) f)
