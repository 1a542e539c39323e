-- The state of a script as the program keeps it: a formula that is asserted is kept as the id of its resolved form.
use Rattle.std.specs.Prelude.{◌≡◌, ℕ, List, [], ◌∷◌, Option, Some, None, option_map, map, length}
use Rattle.exact_numbers.specs.Fraction.{frac_of}
use Rattle.logic_meaning.specs.Context.{Context}
use Rattle.normal_atoms.specs.Atoms.{context_of}
use Rattle.language_meaning.specs.Trees.{FormulaTree}
use Rattle.formula_tree.specs.declared.shape.Shape.{Shape}
use Rattle.formula_tree.specs.Makers.{IsMade}
use Rattle.language_meaning.specs.Resolving.{formula_variables, resolve}
use Rattle.formula_store.specs.declared.id.FormulaId.{FormulaId}
use Rattle.formula_store.specs.Nodes.{tree, IsId}
use Rattle.smt_language.specs.Levels.{levels}
use Rattle.smt_meaning.specs.LevelsBelow.{AreLevelsBelow}
use Rattle.program_meaning.specs.SmtState.{State}
use Rattle.program_meaning.specs.SmtState as state
use Rattle.smt_theorems.specs.Resolvable.{IsResolvable}
use Rattle.smtlib_front.specs.Seen.{Seen}
use Rattle.smtlib_front.specs.declared.kept.Kept.{Kept}
use Rattle.smtlib_front.specs.declared.kept.Kept.TheVariants as kept

-- the values that are kept
abbrev pub kept_of : Kept → state.Kept
kept_of kept.Nothing = state.Nothing
kept_of kept.TooLarge = state.TooLarge
kept_of (kept.Values vs) = state.Values (map frac_of vs.items)

-- the id stands for the resolved form of the formula, however many levels are numbered
pub record IsStored (c : Context) (count : ℕ) (nodes : List (Shape FormulaId)) (f : FormulaTree) (id : FormulaId) : Type 0 where
  pub resolvable : IsResolvable c count f
  pub made : (n : ℕ) → AreLevelsBelow n (formula_variables f) → IsMade (IsId nodes) (tree nodes) id (resolve c [] (levels n) f)

-- each id stands so for the formula in its place
abbrev pub AreStored : Context → ℕ → List (Shape FormulaId) → List FormulaTree → List FormulaId → Type 0
AreStored c count nodes [] [] = Unit {0}
AreStored c count nodes (f ∷ fs) (id ∷ ids) = IsStored c count nodes f id × AreStored c count nodes fs ids
AreStored c count nodes [] (id ∷ ids) = ⊥
AreStored c count nodes (f ∷ fs) [] = ⊥

-- before a logic is chosen nothing is asserted
abbrev pub AreStoredUnder : Option Context → ℕ → List (Shape FormulaId) → List FormulaTree → List FormulaId → Type 0
AreStoredUnder None count nodes fs ids = (fs ≡ []) × (ids ≡ [])
AreStoredUnder (Some c) count nodes fs ids = AreStored c count nodes fs ids

-- what is kept is this state
pub record Represents (m : Seen) (s : State) : Type 0 where
  pub logic : option_map context_of m.logic ≡ s.logic
  pub declared : m.declared ≡ s.declared
  pub asserted : AreStoredUnder s.logic (length s.declared) m.formulas s.asserted m.asserted
  pub kept : kept_of m.kept ≡ s.kept
