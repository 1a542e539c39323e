-- What the sentence of a state is resolved to, and what its truth and its witnesses say of the state.
use Rattle.std.specs.Prelude.{◌≡◌, ℕ, List, [], ◌∷◌, map, length}
use Rattle.std.specs.List.{AllByRecursion}
use Rattle.exact_numbers.specs.Frac.{Frac}
use Rattle.exact_numbers.specs.Limit.{InLimit}
use Rattle.logic_meaning.specs.Context.{Context}
use Rattle.logic_meaning.specs.Every.{Every}
use Rattle.logic_meaning.specs.Formula.{Yes, And}
use Rattle.logic_meaning.specs.Sizes.{height}
use Rattle.logic_meaning.specs.Tree.{Tree, TrueAt, IsFree}
use Rattle.logic_meaning.specs.NormalForm.{IsNormal}
use Rattle.logic_meaning.specs.Values.{origin}
use Rattle.language_meaning.specs.Trees.{FormulaTree}
use Rattle.language_meaning.specs.Causes.{height_in_place, IsTooDeep}
use Rattle.language_meaning.specs.Resolving.{formula_variables, resolve}
use Rattle.formula_tree.specs.Trees.{members}
use Rattle.smt_language.specs.Levels.{levels}
use Rattle.smt_meaning.specs.LevelsBelow.{AreLevelsBelow}
use Rattle.sample_reference.specs.Leading.{under_names, AreWitnesses}
use Rattle.program_meaning.specs.SmtState.{State}
use Rattle.program_meaning.specs.Sentence.{sentence, level_count, resolved_sentence, Holds, Fails}
use Rattle.program_meaning.specs.Checks.{AreValues}
use Rattle.smt_theorems.specs.Resolvable.{IsResolvable}

-- so many levels have the names of the sentence
abbrev pub sentence_levels : State → ℕ
sentence_levels s = level_count (formula_variables (sentence s))

-- the formula with its names numbered by these levels
abbrev pub numbered : Context → State → FormulaTree → Tree
numbered c s f = resolve c [] (levels (sentence_levels s)) f

-- the formulas joined by and: one alone stands for itself, and none is true
abbrev pub conjunction : List Tree → Tree
conjunction [] = Yes
conjunction (f ∷ []) = f
conjunction (f ∷ g ∷ fs) = And (members (f ∷ g ∷ fs))

-- the formulas that are asserted, joined
abbrev pub asserted_tree : Context → State → Tree
asserted_tree c s = conjunction (map (numbered c s) s.asserted)

-- what is asserted may stand so
abbrev pub AreResolvable : Context → State → Type 0
AreResolvable c s = AllByRecursion (IsResolvable c (length s.declared)) s.asserted

-- The names of each formula are among the numbered ones, and the resolved sentence is what is asserted under `ex` of the declared names.
pub record IsSentenceMade (c : Context) (s : State) : Type 0 where
  pub below : AllByRecursion (λ f. AreLevelsBelow (sentence_levels s) (formula_variables f)) s.asserted
  pub tree : resolved_sentence c s ≡ under_names 0 (length s.declared) (asserted_tree c s)
  pub height : height (resolved_sentence c s) ≡ height_in_place [] (sentence s)

-- Its atoms are normal and it has no free name; where it is true the sentence is, where it is not the sentence is false, and witnesses of what
-- is asserted are values of the declared names.
pub record IsSentenceMeant (c : Context) (s : State) : Type 0 where
  pub normal : Every (IsNormal c) (asserted_tree c s)
  pub closed : (y : ℕ) → ¬ (IsFree (resolved_sentence c s) y)
  pub holds : TrueAt c (resolved_sentence c s) origin → Holds c s
  pub fails : ¬ (TrueAt c (resolved_sentence c s) origin) → Fails c s
  pub valued : (vs : List Frac) → AreWitnesses c (length s.declared) (asserted_tree c s) vs → AllByRecursion (λ v. InLimit v.numerator × InLimit v.denominator) vs → AreValues c s vs

-- what is proved of the sentence of a state, in each theory
abbrev pub SentenceIsMade : Type 0
SentenceIsMade = (c : Context) (s : State) → AreResolvable c s → IsSentenceMade c s

abbrev pub SentenceIsMeant : Type 0
SentenceIsMeant = (c : Context) (s : State) → AreResolvable c s → ¬ (IsTooDeep [] (sentence s)) → IsSentenceMeant c s
