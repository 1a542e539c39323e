-- Cases whose answers stand over a formula.
use Rattle.std.specs.Prelude.{◌≡◌, ◌⊎◌, ℕ, List, [], ◌∷◌}
use Rattle.logic_meaning.specs.Context.{Context}
use Rattle.logic_meaning.specs.Every.{Every}
use Rattle.logic_meaning.specs.Some.{EachOf}
use Rattle.logic_meaning.specs.Answer.{Answer, PlaceMentions}
use Rattle.formula_laws.specs.Giving.{Gives}
use Rattle.logic_meaning.specs.Tree.{Tree, IsFree}
use Rattle.logic_meaning.specs.NormalForm.{IsNormal}
use Rattle.logic_meaning.specs.Cases.{Case, reference_cases}
use Rattle.logic_meaning.specs.Over.{AreAnswersOver}

-- the answers of each reference case are such answers over the free names of the formula
abbrev pub CasesHaveAnswers : Context → Type 0
CasesHaveAnswers c = (limit : ℕ) (f : Tree) → Every (IsNormal c) f → Gives (λ r. EachOf (λ (k : Case). AreAnswersOver c (IsFree f) k.answers) r.0) (reference_cases c limit f)

-- the form of each answer has only names with P, and the names of the answers before it
abbrev pub AreOver : (ℕ → Type 0) → List Answer → Type 0
AreOver P [] = Unit {0}
AreOver P (a ∷ rest) = ((y : ℕ) → PlaceMentions a.place y → P y) × AreOver (λ y. P y ⊎ (a.name ≡ y)) rest

-- the answers of each reference case are over the free names of the formula
abbrev pub CasesAreOver : Context → Type 0
CasesAreOver c = (limit : ℕ) (f : Tree) → Every (IsNormal c) f → Gives (λ r. EachOf (λ (k : Case). AreOver (IsFree f) k.answers) r.0) (reference_cases c limit f)
