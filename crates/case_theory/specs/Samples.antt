-- A value for each answered name, calculated from the formula with the answers after it put in.
use Rattle.std.specs.Prelude.{◌≡◌, ℕ, pos, ◌*ℤ◌, unsigned_abs, List, [], ◌∷◌, ◌++◌, Some}
use Rattle.exact_numbers.specs.Frac.{Frac}
use Rattle.logic_meaning.specs.Context.{Context, Fields, Integers}
use Rattle.logic_meaning.specs.Point.{Point, Of}
use Rattle.formula_laws.specs.Points.{IsSamePoint}
use Rattle.logic_meaning.specs.Plain.{IsPlain}
use Rattle.logic_meaning.specs.Some.{EachOf}
use Rattle.logic_meaning.specs.Atom.{Atom}
use Rattle.logic_meaning.specs.Answer.{Place, Answer, Holds}
use Rattle.logic_meaning.specs.Tree.{Tree, TrueAt}
use Rattle.formula_laws.specs.Equivalence.{InContext}
use Rattle.elimination_theory.specs.AtPlace.{at_place}
use Rattle.logic_meaning.specs.BothTheories.{IsPlaceIn}
use Rattle.elimination_theory.specs.Samples.{IsSample}
use Rattle.logic_meaning.specs.Answers.{Step, answers_of}
use Rattle.logic_meaning.specs.PutIn.{tree_put}
use Rattle.elimination_theory.specs.Theorems.{IsTidy}
use Rattle.logic_meaning.specs.AnswerParts.{answer_names}
use Rattle.case_theory.specs.PutThrough.{AreTrue, put_through, FitAt}
use Rattle.case_theory.specs.Under.{LeadUnder}
use Rattle.logic_meaning.specs.Values.{Value, value_names, with_value, with_values, IsValue, origin}
use Rattle.logic_meaning.specs.Calculated.{place_value, values_from}

-- ---- one place

abbrev pub named_value : ℕ → Frac → Value
named_value x r = record { name = x; at = r }

-- The calculated value of a place makes true what the place makes true. Over the integers a period need not fit the congruences.
abbrev pub ValueIsTrue : Context → Type 0
ValueIsTrue c = (x : ℕ) (s : Place) (f : Tree) (p : Point ℕ) (r : Frac) → IsPlaceIn c s → IsPlain f → InContext c f → Of c p → Holds c (at_place x s) f p →
    place_value c x s f p ≡ Some r → IsValue c (named_value x r) × TrueAt c f (with_value p (named_value x r))

-- It is the place's sample in the branch with the point put in: on the way to the next critical value, beyond all of them, or there
-- in the residue class.
abbrev pub ValueIsSample : Context → Type 0
ValueIsSample c = (x : ℕ) (s : Place) (f : Tree) (p : Point ℕ) (r : Frac) → IsPlaceIn c s → IsPlain f → InContext c f → Of c p → Holds c (at_place x s) f p →
    place_value c x s f p ≡ Some r → IsSample c x s (tree_put c p (x ∷ []) f) p (r.numerator *ℤ pos p.below) (unsigned_abs r.denominator)

-- ---- answers

-- each answer as a step, whose branch is the formula with the answers after it put in
abbrev pub answer_steps : Context → List Answer → Tree → List Step
answer_steps c [] f = []
answer_steps c (a ∷ rest) f = record { name = a.name; place = a.place; branch = put_through c rest f } ∷ answer_steps c rest f

-- over the integers the periods fit the formula at the point, and where answered names differ from it; the fields have no periods
abbrev pub PeriodsFit : Context → List Answer → Tree → Point ℕ → Type 0
PeriodsFit Fields answers f p = Unit {0}
PeriodsFit Integers answers f p = FitAt Integers answers f p

-- the answers are places of the theory that make the formula true at the point, and their periods fit
pub record IsSampleable (c : Context) (answers : List Answer) (f : Tree) (p : Point ℕ) : Type 0 where
  pub is_plain : IsPlain f
  pub in_context : InContext c f
  pub of_theory : Of c p
  pub places : EachOf (λ (a : Answer). IsPlaceIn c a.place) answers
  pub holds : Holds c answers f p
  pub fit : PeriodsFit c answers f p

-- the known values are the point
pub record AreKnown (c : Context) (known : List Value) (p : Point ℕ) : Type 0 where
  pub each : EachOf (IsValue c) known
  pub same : IsSamePoint p (with_values origin known)

-- values of the answered names, with which the formula is true at the point
pub record AreTrueAnswers (c : Context) (answers : List Answer) (f : Tree) (p : Point ℕ) (values : List Value) : Type 0 where
  pub names : value_names values ≡ answer_names answers
  pub each : EachOf (IsValue c) values
  pub true_with : TrueAt c f (with_values p values)

-- such values stand behind the known ones
pub record GivesAnswers (c : Context) (answers : List Answer) (f : Tree) (p : Point ℕ) (known all : List Value) : Type 0 where
  pub values : List Value
  pub behind : all ≡ known ++ values
  pub true_answers : AreTrueAnswers c answers f p values

-- The calculated values of the answers, behind the known ones, make the formula true.
abbrev pub SampleOfAnswersIsTrue : Context → Type 0
SampleOfAnswersIsTrue c = (answers : List Answer) (f : Tree) (p : Point ℕ) (known all : List Value) → IsSampleable c answers f p → AreKnown c known p →
    values_from c (answer_steps c answers f) known ≡ Some all → GivesAnswers c answers f p known all

-- ---- answers that were found

-- Answers that lead to a formula under assumptions can be sampled where the assumptions and that formula are true.
abbrev pub LeadIsSampleable : Context → Type 0
LeadIsSampleable c = (ks : List Atom) (steps : List Step) (f g : Tree) (p : Point ℕ) → LeadUnder c ks steps f g → IsTidy c f → Of c p → AreTrue ks p → TrueAt c g p →
    IsSampleable c (answers_of steps) f p
