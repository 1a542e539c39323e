-- Answers in lowest terms.
use Rattle.std.specs.Prelude.{List, map}
use Rattle.logic_meaning.specs.Answer.{Answer, Place, Exact, AboveBy, BelowBy, PlusInfinity, MinusInfinity, Periodic}
use Rattle.logic_meaning.specs.Cases.{Case}
use Rattle.logic_meaning.specs.FieldsPoints.{exact_point, beside_point}
use Rattle.logic_meaning.specs.Some.{EachOf}
use Rattle.logic_meaning.specs.declared.side.Side.TheVariants.{Lower, Upper}
use Rattle.elimination_theory.specs.LowestPoints.{IsInLowestTerms}
use Rattle.form_commands.specs.declared.way.Way.{Way}
use Rattle.form_commands.specs.declared.way.Way.TheVariants as way

-- the place with its form and its denominator divided by all that their numbers share
abbrev pub lowest_place : Place → Place
lowest_place (Exact e d) = exact_point e d
lowest_place (AboveBy e d) = beside_point Lower e d
lowest_place (BelowBy e d) = beside_point Upper e d
lowest_place PlusInfinity = PlusInfinity
lowest_place MinusInfinity = MinusInfinity
lowest_place (Periodic j q) = Periodic j q

-- the answer at this place
abbrev pub lowest_answer : Answer → Answer
lowest_answer a = record { name = a.name; place = lowest_place a.place }

-- the case with all its answers so
abbrev pub lowest_case : Case → Case
lowest_case k = record { guard = k.guard; answers = map lowest_answer k.answers }

-- the place of each answer is in lowest terms
abbrev pub AreLowest : List Case → Type 0
AreLowest cases = EachOf (λ (k : Case). EachOf (λ (a : Answer). IsInLowestTerms a.place) k.answers) cases

-- those found by cases are in lowest terms, those of the reference as it gives them
abbrev pub AreLowestBy : Way → List Case → Type 0
AreLowestBy way.ByCases cases = AreLowest cases
AreLowestBy way.ByReference cases = Unit {0}
