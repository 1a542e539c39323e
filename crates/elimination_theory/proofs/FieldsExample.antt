-- The formula x > a and x < b, worked through.
use Rattle.std.proofs.Common.{refl, arith, nat_eq}
use Rattle.std.proofs.Math.IntN.{pos}
use Rattle.std.proofs.lemmas.Int.{ints}
use Rattle.exact_numbers.specs.Divides.{content_of, gcd_of, euclid}
use Rattle.logic_meaning.specs.Context.{Fields}
use Rattle.logic_meaning.specs.Point.{move}
use Rattle.logic_meaning.specs.Form.{value, coefficient, without, scale, combine}
use Rattle.logic_meaning.specs.Answer.{Exact, MinusInfinity, Holds}
use Rattle.logic_meaning.specs.Tree.{TrueAt}
use Rattle.logic_meaning.specs.FieldsPoints.{form_over}
use Rattle.elimination_theory.specs.FieldsTrees.{field_substitution}
use Rattle.elimination_theory.specs.AtPlace.{at_place}
use Rattle.elimination_theory.specs.FieldsExample.{open_interval, named, unit_interval, OpenIntervalPoints, OpenIntervalSubstitutions, EpsilonIsNeeded}
use Rattle.elimination_theory.proofs.FieldsSubstitute.{substitution_exact}

pub open_interval_points : OpenIntervalPoints
unfolding coefficient without scale form_over content_of gcd_of euclid
open_interval_points = (refl, refl)

pub open_interval_substitutions : OpenIntervalSubstitutions
unfolding coefficient without combine
open_interval_substitutions = (refl, refl)

half_is_inside : TrueAt Fields open_interval (move nat_eq unit_interval 0 (pos 1) 2)
unfolding value move
half_is_inside = (omega (arith, ints), (omega (arith, ints), tt))

not_at_minus_infinity : ¬ (TrueAt Fields (field_substitution 0 MinusInfinity open_interval) unit_interval)
unfolding coefficient
not_at_minus_infinity h = h.0

not_at_the_bound : ¬ (Holds Fields (at_place 0 (Exact (named 1) 1)) open_interval unit_interval)
unfolding value move
not_at_the_bound h = let l = h.0 in absurd (omega (arith, ints))

pub epsilon_is_needed : EpsilonIsNeeded
epsilon_is_needed = (
  (pos 1, 2, omega arith, half_is_inside),
  λ h. not_at_minus_infinity ((substitution_exact 0 MinusInfinity open_interval unit_interval tt (tt, (tt, tt)) (tt, (tt, tt)) (omega arith)).0 h),
  not_at_the_bound,
)
