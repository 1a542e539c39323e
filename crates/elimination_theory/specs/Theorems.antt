-- What is proved of the reference elimination.
use Rattle.std.specs.Prelude.{◌≡◌, ◌⊎◌, ℕ, ◌≤◌, ◌↔◌, Bool, true, false, List, Option, Some, None}
use Rattle.logic_meaning.specs.Context.{Context}
use Rattle.logic_meaning.specs.Formula.{Yes, No, One, Not, And, Or, Impl, Repl, Equiv, Ex, All, none, also}
use Rattle.logic_meaning.specs.Every.{Every}
use Rattle.logic_meaning.specs.Members.{AreTwo}
use Rattle.logic_meaning.specs.Plain.{IsPlain}
use Rattle.logic_meaning.specs.Point.{Point, Of}
use Rattle.logic_meaning.specs.Some.{EachOf}
use Rattle.logic_meaning.specs.Sizes.{nodes}
use Rattle.logic_meaning.specs.Answer.{Holds}
use Rattle.logic_meaning.specs.Tree.{Tree, Trees, TrueAt, IsFree}
use Rattle.formula_laws.specs.Equivalence.{Equivalent}
use Rattle.elimination_theory.specs.Decided.{IsEliminated}
use Rattle.logic_meaning.specs.Answers.{Step}
use Rattle.logic_meaning.specs.NormalForm.{IsNormal}
use Rattle.formula_laws.specs.Giving.{Gives}
use Rattle.logic_meaning.specs.Reference.{normal_tree, reference}
use Rattle.logic_meaning.specs.PutIn.{put_in}
use Rattle.logic_meaning.specs.Sample.{reference_at, chosen_steps}
use Rattle.elimination_theory.specs.Sampled.{IsSampled}
use Rattle.logic_meaning.specs.Cases.{Case, case_sign, case_formula, case_matrix, case_names, reference_cases}
use Rattle.logic_meaning.specs.AnswerParts.{guards_of, answer_names}

-- neither true nor false
abbrev pub IsProper : Tree → Type 0
IsProper Yes = ⊥
IsProper No = ⊥
IsProper f = Unit {0}

abbrev mutual
  -- each and and each or has two members at least, and no constant among them
  pub IsBranching : Tree → Type 0
  IsBranching Yes = Unit {0}
  IsBranching No = Unit {0}
  IsBranching (One a) = Unit {0}
  IsBranching (Not f) = IsBranching f
  IsBranching (And fs) = AreTwo fs × AreBranching fs
  IsBranching (Or fs) = AreTwo fs × AreBranching fs
  IsBranching (Impl f g) = IsBranching f × IsBranching g
  IsBranching (Repl f g) = IsBranching f × IsBranching g
  IsBranching (Equiv f g) = IsBranching f × IsBranching g
  IsBranching (Ex x f) = IsBranching f
  IsBranching (All x f) = IsBranching f

  pub AreBranching : Trees → Type 0
  AreBranching none = Unit {0}
  AreBranching (also f fs) = IsProper f × IsBranching f × AreBranching fs

-- built by and and or from normal atoms, with two members at least and constants alone
pub record IsTidy (c : Context) (f : Tree) : Type 0 where
  pub is_plain : IsPlain f
  pub normal : Every (IsNormal c) f
  pub two_members : IsBranching f

-- g is equivalent to f, has no quantifiers and no other free names, and is tidy
pub record IsAnswerTo (c : Context) (f g : Tree) : Type 0 where
  pub eliminated : IsEliminated c f g
  pub tidy : IsTidy c g

-- Of a formula over normal atoms the reference gives such a formula, whatever the limit.
abbrev pub ReferenceIsExact : Context → Type 0
ReferenceIsExact c = (limit : ℕ) (f : Tree) → Every (IsNormal c) f → Gives (λ r. IsAnswerTo c f r.0) (reference c limit f)

-- ---- its cost

-- The result has at most as many nodes as it cost, and that is within the limit.
abbrev pub CostBoundsNodes : Context → Type 0
CostBoundsNodes c = (limit : ℕ) (f : Tree) → Every (IsNormal c) f → Gives (λ r. (nodes r.0 ≤ r.1) × (r.1 ≤ limit)) (reference c limit f)

-- ---- cases

-- the guard is true exactly where the answers make the matrix true; they name the leading block in its order
pub record IsExactCase (c : Context) (f : Tree) (k : Case) : Type 0 where
  pub exact : (p : Point ℕ) → Of c p → Holds c k.answers (case_matrix f) p ↔ TrueAt c k.guard p
  pub in_order : answer_names k.answers ≡ case_names f
  pub tidy : IsTidy c k.guard

-- for true g is equivalent to f, for false to its negation
abbrev pub Says : Context → Bool → Tree → Tree → Type 0
Says c true f g = Equivalent c f g
Says c false f g = Equivalent c (Not f) g

-- each case is exact, and together the guards say the formula, or its negation where that begins with all
pub record AreExactCases (c : Context) (f : Tree) (cases : List Case) : Type 0 where
  pub each : EachOf (IsExactCase c f) cases
  pub together : Says c (case_sign (normal_tree f)) f (Or (guards_of cases))
  pub names : (y : ℕ) → IsFree (Or (guards_of cases)) y → IsFree f y

abbrev pub CasesAreExact : Context → Type 0
CasesAreExact c = (limit : ℕ) (f : Tree) → Every (IsNormal c) f → Gives (λ r. AreExactCases c f r.0) (reference_cases c limit f)

-- ---- putting in a point

-- The formula has the truth that f has at the point wherever it is asked, no free name, normal atoms and the nodes of the
-- negation normal form of f.
pub record IsPutIn (c : Context) (f : Tree) (p : Point ℕ) (g : Tree) : Type 0 where
  pub truth : (q : Point ℕ) → Of c q → TrueAt c f p ↔ TrueAt c g q
  pub closed : (y : ℕ) → ¬ (IsFree g y)
  pub normal : Every (IsNormal c) g
  pub same_nodes : nodes g ≡ nodes (normal_tree f)

abbrev pub PuttingInIsExact : Context → Type 0
PuttingInIsExact c = (f : Tree) (p : Point ℕ) → Every (IsNormal c) f → Of c p → IsPutIn c f p (put_in c p f)

-- At a point the reference gives true where the formula is true, and false where it is not.
abbrev pub IsTold : Context → Tree → Point ℕ → Tree → Type 0
IsTold c f p g = ((g ≡ Yes) × TrueAt c f p) ⊎ ((g ≡ No) × ¬ (TrueAt c f p))

abbrev pub TruthIsTold : Context → Type 0
TruthIsTold c = (limit : ℕ) (f : Tree) (p : Point ℕ) → Every (IsNormal c) f → Of c p → Gives (λ r. IsTold c f p r.0) (reference_at c limit p f)

-- ---- samples

-- Where steps are chosen the formula whose cases are asked is true at the point, there is a sample, and every sample makes the
-- matrix true; over the integers it is whole. Where none are chosen the formula is false there.
abbrev pub IsChoice : Context → Tree → Point ℕ → Option (List Step) → Type 0
IsChoice c f p None = ¬ (TrueAt c (case_formula f) p)
IsChoice c f p (Some steps) =
    TrueAt c (case_formula f) p
    × ((q : Point ℕ) × IsSampled c p steps q)
    × ((q : Point ℕ) → IsSampled c p steps q → Of c q × TrueAt c (case_matrix f) q)

abbrev pub SamplesAreExact : Context → Type 0
SamplesAreExact c = (limit : ℕ) (f : Tree) (p : Point ℕ) → Every (IsNormal c) f → Of c p → Gives (λ r. IsChoice c f p r.0) (chosen_steps c limit p f)
