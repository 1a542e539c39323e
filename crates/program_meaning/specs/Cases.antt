-- The case list of a formula, in a state in which the variables of the command have their numbers.
use Rattle.std.specs.Prelude.{◌≢◌, ◌↔◌, ℕ, Bool, true, false, List, IsPermutation}
use Rattle.logic_meaning.specs.Answer.{Holds}
use Rattle.logic_meaning.specs.Every.{Every}
use Rattle.logic_meaning.specs.Numbers.{IsAtomInLimit}
use Rattle.logic_meaning.specs.Formula.{No, Or}
use Rattle.logic_meaning.specs.Point.{Of}
use Rattle.logic_meaning.specs.Shape.{IsQuantifierFree}
use Rattle.logic_meaning.specs.Some.{EachOf}
use Rattle.logic_meaning.specs.Tree.{IsFree, TrueAt}
use Rattle.logic_meaning.specs.NormalForm.{IsNormal}
use Rattle.logic_meaning.specs.Cases.{Case, case_sign, case_matrix, case_names}
use Rattle.logic_meaning.specs.AnswerParts.{guards_of, answer_names}
use Rattle.logic_meaning.specs.Over.{AreAnswersOver}
use Rattle.language_meaning.specs.Trees.{FormulaTree, FormulaTrees}
use Rattle.language_meaning.specs.Value as written
use Rattle.language_meaning.specs.Resolving.{resolve, at_names, bound_truth}
use Rattle.logic_meaning.specs.Members.{HasTwoMembers}
use Rattle.logic_meaning.specs.Trees.{IsReduced}
use Rattle.program_meaning.specs.State.{State, known}
use Rattle.program_meaning.specs.Assumptions.{Hold, assumed}
use Rattle.program_meaning.specs.FormulaAnswers.{negation_normal_of}

-- what is said, or for false that it is not so
abbrev pub Turned : Bool → Type 0 → Type 0
Turned true T = T
Turned false T = ¬ T

-- The guard has no quantifier and no free name but those of the resolved formula. It is Reduced under the assumptions and not false, with normal atoms and
-- lists of two members at least, and its numbers are within the limit. The answers are for the names of the leading block, each once, in any order. Each has a place of the theory with a sorted form,
-- whose numbers are within the limit, over free names of the formula and names answered before. At every point of the theory where the assumptions are true, the
-- guard is true exactly where the answers make true what stands behind the block, or for a block of all its negation.
pub record IsCaseOf (s : State) (f : FormulaTree) (given : FormulaTrees) (k : Case) : Type 0 where
  pub free : IsQuantifierFree k.guard
  pub names : (n : ℕ) → IsFree k.guard n → IsFree (resolve s.context (known s) s.names f) n
  pub reduced : IsReduced s.context k.guard (assumed s given)
  pub possible : k.guard ≢ No
  pub normal : Every (IsNormal s.context) k.guard
  pub members : HasTwoMembers k.guard
  pub numbers : Every IsAtomInLimit k.guard
  pub once : IsPermutation (case_names (resolve s.context (known s) s.names f)) (answer_names k.answers)
  pub answers : AreAnswersOver s.context (IsFree (resolve s.context (known s) s.names f)) k.answers
  pub exact : (p : written.NamedPoint) → Of s.context p → Hold s given p
      → Holds s.context k.answers (case_matrix (resolve s.context (known s) s.names f)) (at_names s.names p) ↔ TrueAt s.context k.guard (at_names s.names p)

-- Each is such a case. At every point of the theory where the assumptions are true, some guard is true exactly where the command's formula is, as it is written,
-- or for a block of all where it is not.
pub record IsCaseAnswer (s : State) (f : FormulaTree) (given : FormulaTrees) (ks : List Case) : Type 0 where
  pub each : EachOf (IsCaseOf s f given) ks
  pub together : (p : written.NamedPoint) → Of s.context p → Hold s given p
      → Turned (case_sign (negation_normal_of s f)) (written.TrueAt (bound_truth s.context (known s) s.names) s.context f p) ↔ TrueAt s.context (Or (guards_of ks)) (at_names s.names p)
