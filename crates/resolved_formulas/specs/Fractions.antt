-- The fraction rule as a kit of steps.
use Rattle.std.specs.Prelude.{pos, Ok}
use Rattle.exact_numbers.specs.Frac.{Frac, whole_frac, negated, lowest, sum_step, product_step}
use Rattle.written_syntax.specs.declared.value.EvalError.{EvalError}
use Rattle.language_meaning.specs.Value.{NamedPoint}
use Rattle.written_syntax.specs.Rule.{stepped, literal_fraction, quotient_step, power_step}
use Rattle.language_meaning.specs.FractionRule.{Steps}

-- the fractions at a point
abbrev pub fractions : NamedPoint → Steps Frac EvalError
fractions p = record {
  number = literal_fraction;
  name = λ x. Ok (lowest (p.at x) (pos p.below));
  empty_sum = whole_frac (pos 0);
  empty_product = whole_frac (pos 1);
  plus = λ v w. stepped (sum_step v w);
  times = λ v w. stepped (product_step v w);
  over = quotient_step;
  power = power_step;
  minus = λ v. Ok (negated v);
}
