-- What is proved of the answers of steps.
use Rattle.std.specs.Prelude.{ℕ, ◌↔◌, List, [], ◌∷◌}
use Rattle.logic_meaning.specs.Context.{Context}
use Rattle.logic_meaning.specs.Point.{Point, Of}
use Rattle.logic_meaning.specs.Plain.{IsPlain}
use Rattle.logic_meaning.specs.Answer.{Holds}
use Rattle.logic_meaning.specs.Tree.{Tree, TrueAt, IsFree}
use Rattle.formula_laws.specs.Equivalence.{InContext, Equivalent}
use Rattle.elimination_theory.specs.Places.{IsPlaceFor, substitution}
use Rattle.logic_meaning.specs.Answers.{Step, answers_of, zero_place}

-- the step makes g of its branch: the place suits the branch, and g is equivalent to the substitution into it
pub record Makes (c : Context) (s : Step) (g : Tree) : Type 0 where
  pub suits : IsPlaceFor c s.name s.place s.branch
  pub is_plain : IsPlain s.branch
  pub in_context : InContext c s.branch
  pub equivalent : Equivalent c (substitution c s.name s.place s.branch) g

-- The steps lead from f to g, the last of the list first: its branch is equivalent to f, each step makes the branch of the
-- one before it in the list, and the first step makes g.
abbrev pub Lead : Context → List Step → Tree → Tree → Type 0
Lead c [] f g = Equivalent c f g
Lead c (s ∷ rest) f g = Lead c rest f s.branch × Makes c s g

-- Then the answers make f true exactly where g is true.
abbrev pub AnswersHold : Context → Type 0
AnswersHold c = (steps : List Step) (f g : Tree) (p : Point ℕ) → Lead c steps f g → Of c p → Holds c (answers_of steps) f p ↔ TrueAt c g p

-- A name that does not stand in the branch may be put at 0: the branch stays.
abbrev pub AbsentNameIsZero : Context → Type 0
AbsentNameIsZero c = (x : ℕ) (f : Tree) → IsPlain f → InContext c f → ¬ (IsFree f x) → Makes c (record { name = x; place = zero_place; branch = f }) f
