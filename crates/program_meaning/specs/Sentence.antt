-- The sentence of a state: that there are values for the declared names with which all that is asserted is true.
use Rattle.std.specs.Prelude.{◌≡◌, ℕ, suc, max, List, [], ◌∷◌}
use Rattle.logic_meaning.specs.declared.junction.Junction.TheVariants.{Conjunction}
use Rattle.logic_meaning.specs.declared.quantifier.Quantifier.TheVariants.{Exists}
use Rattle.logic_meaning.specs.Context.{Context}
use Rattle.logic_meaning.specs.Formula.{Yes}
use Rattle.logic_meaning.specs.Measured.{Stop, stopped}
use Rattle.logic_meaning.specs.Point.{Of}
use Rattle.logic_meaning.specs.Tree.{Tree}
use Rattle.logic_meaning.specs.Reference.{reference}
use Rattle.logic_meaning.specs.ReferenceSample.{reference_sample}
use Rattle.logic_meaning.specs.Values.{origin}
use Rattle.language_meaning.specs.Trees.{FormulaTree}
use Rattle.language_meaning.specs.Value.{NamedPoint, TrueAt}
use Rattle.language_meaning.specs.Resolving.{formula_variables, resolve}
use Rattle.smt_language.specs.Levels.{levels, closed}
use Rattle.smt_language.specs.Shapes.{joined_of}
use Rattle.program_meaning.specs.SmtState.{State}

-- all of the formulas; true where there is none
abbrev pub all_of : List FormulaTree → FormulaTree
all_of [] = Yes
all_of (f ∷ fs) = joined_of Conjunction (f ∷ fs)

-- all that is asserted, behind `ex` of the declared names in their order
abbrev pub sentence : State → FormulaTree
sentence s = closed Exists 0 s.declared (all_of s.asserted)

-- the formula is true at the point, where no name is bound to a formula
abbrev pub Says : Context → FormulaTree → NamedPoint → Type 0
Says c f p = TrueAt (λ x q. ⊥) c f p

-- the sentence is true, as it is written, at each point of the theory
abbrev pub Holds : Context → State → Type 0
Holds c s = (p : NamedPoint) → Of c p → Says c (sentence s) p

-- it is true at none
abbrev pub Fails : Context → State → Type 0
Fails c s = (p : NamedPoint) → Of c p → ¬ (Says c (sentence s) p)

-- ---- the reference elimination of the sentence

-- so many levels have the names
abbrev pub level_count : List (List ℕ) → ℕ
level_count [] = 0
level_count ([] ∷ xs) = level_count xs
level_count ((n ∷ []) ∷ xs) = max (suc n) (level_count xs)
level_count ((m ∷ n ∷ ns) ∷ xs) = level_count xs

-- the sentence with its names numbered by their levels
abbrev pub resolved_sentence : Context → State → Tree
resolved_sentence c s = resolve c [] (levels (level_count (formula_variables (sentence s)))) (sentence s)

-- the reference elimination of the sentence stops
abbrev pub ReferenceStops : Context → State → ℕ → Type 0
ReferenceStops c s limit = (e : Stop) × (reference c limit (resolved_sentence c s) ≡ stopped e)

-- the reference sample of the sentence stops
abbrev pub SampleStops : Context → State → ℕ → Type 0
SampleStops c s limit = (e : Stop) × (reference_sample c limit origin (resolved_sentence c s) ≡ stopped e)
