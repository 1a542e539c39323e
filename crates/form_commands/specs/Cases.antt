-- The case list of a formula of a store, its guards simplified under atoms.
use Rattle.std.specs.Prelude.{◌≡◌, ◌≢◌, ◌↔◌, ℕ, List, [], ◌∷◌, Option, Some, None, IsPermutation}
use Rattle.logic_meaning.specs.Context.{Context}
use Rattle.logic_meaning.specs.Atom.{Atom}
use Rattle.logic_meaning.specs.Every.{Every}
use Rattle.logic_meaning.specs.Formula.{No, Or}
use Rattle.logic_meaning.specs.Numbers.{IsAtomInLimit}
use Rattle.logic_meaning.specs.Answer.{Holds}
use Rattle.logic_meaning.specs.Point.{Point, Of}
use Rattle.logic_meaning.specs.Shape.{IsQuantifierFree}
use Rattle.logic_meaning.specs.Some.{EachOf}
use Rattle.logic_meaning.specs.Tree.{Tree, TrueAt, IsFree}
use Rattle.logic_meaning.specs.Measured.{done}
use Rattle.logic_meaning.specs.NormalForm.{IsNormal}
use Rattle.shape_theory.specs.Orderly.{IsOrderly}
use Rattle.logic_meaning.specs.Trees.{IsReduced}
use Rattle.logic_meaning.specs.Reference.{normal_tree}
use Rattle.logic_meaning.specs.Cases.{Case, case_sign, case_matrix, case_names, reference_cases}
use Rattle.logic_meaning.specs.Over.{AreAnswersOver}
use Rattle.logic_meaning.specs.AnswerParts.{guards_of, answer_names}
use Rattle.case_theory.specs.CaseTree.{SaysUnder}
use Rattle.case_theory.specs.PutThrough.{AreTrue}
use Rattle.form_commands.specs.declared.way.Way.{Way}
use Rattle.form_commands.specs.declared.way.Way.TheVariants as way
use Rattle.form_commands.specs.Forms.{IsSimplifiedAs}

-- a case with its guard simplified under the atoms ks, where it has not become false; the numbers of the guard are within the limit
pub record IsCaseLeft (c : Context) (ks : List Atom) (k left : Case) : Type 0 where
  pub simplified : IsSimplifiedAs c ks k.guard left.guard
  pub possible : left.guard ≢ No
  pub numbers : Every IsAtomInLimit left.guard
  pub answers : left.answers ≡ k.answers

-- what is left of a case
abbrev pub IsLeftOf : Context → List Atom → Case → Option Case → Type 0
IsLeftOf c ks k None = IsSimplifiedAs c ks k.guard No
IsLeftOf c ks k (Some left) = IsCaseLeft c ks k left

-- a case, if there is one, before others
abbrev pub put_before : Option Case → List Case → List Case
put_before None rest = rest
put_before (Some k) rest = k ∷ rest

-- what is left of the cases, in order
abbrev pub AreLeftOf : Context → List Atom → List Case → List Case → Type 0
AreLeftOf c ks [] left = left ≡ []
AreLeftOf c ks (k ∷ cases) left = (first : Option Case) × (rest : List Case) × IsLeftOf c ks k first × AreLeftOf c ks cases rest × (left ≡ put_before first rest)

-- what is left under the atoms ks of the cases that the reference elimination gives
pub record AreWantedCases (c : Context) (ks : List Atom) (limit : ℕ) (f : Tree) (left : List Case) : Type 0 where
  pub cases : List Case
  pub cost : ℕ
  pub same : reference_cases c limit f ≡ done (cases, cost)
  pub simplified : AreLeftOf c ks cases left

-- The guard has no quantifier and no free name but those of f. It is Reduced under the atoms ks and not false, with normal atoms,
-- lists of two members at least, and numbers within the limit. The answers are for the names of the leading block, each once, in any
-- order, at places of the theory over free names of f and names answered before. Where all of ks are true, the guard is true exactly
-- where the answers make true what stands behind the block, or for a block of all its negation.
pub record IsCaseFor (c : Context) (ks : List Atom) (f : Tree) (k : Case) : Type 0 where
  pub free : IsQuantifierFree k.guard
  pub names : (x : ℕ) → IsFree k.guard x → IsFree f x
  pub reduced : IsReduced c k.guard ks
  pub possible : k.guard ≢ No
  pub normal : Every (IsNormal c) k.guard
  pub orderly : IsOrderly (IsNormal c) k.guard
  pub numbers : Every IsAtomInLimit k.guard
  pub once : IsPermutation (case_names f) (answer_names k.answers)
  pub answers : AreAnswersOver c (IsFree f) k.answers
  pub exact : (p : Point ℕ) → Of c p → AreTrue ks p → Holds c k.answers (case_matrix f) p ↔ TrueAt c k.guard p

-- What is left under the atoms ks of cases of f, whichever way they were found: where all of ks are true, some guard is true exactly
-- where f is, or for a block of all where it is not.
pub record AreCasesFor (c : Context) (ks : List Atom) (f : Tree) (left : List Case) : Type 0 where
  pub each : EachOf (IsCaseFor c ks f) left
  pub together : SaysUnder c ks (case_sign (normal_tree f)) f (Or (guards_of left))

-- what is left of the cases that are found in this way
abbrev pub AreCasesBy : Way → Context → List Atom → ℕ → Tree → List Case → Type 0
AreCasesBy way.ByCases c ks limit f left = AreCasesFor c ks f left
AreCasesBy way.ByReference c ks limit f left = AreWantedCases c ks limit f left
