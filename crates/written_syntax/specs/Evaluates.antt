-- What a calculation of the code gives, against the rule.
use Rattle.std.specs.Prelude.{◌≡◌, Bool, Result, Ok, Err}
use Rattle.exact_numbers.specs.declared.fraction.Fraction.{Fraction}
use Rattle.exact_numbers.specs.Frac.{Frac}
use Rattle.exact_numbers.specs.Fraction.{frac_of}
use Rattle.written_syntax.specs.declared.value.EvalError.{EvalError}

-- the fraction that the rule gives, or what stops it
abbrev pub Evaluates : Result Fraction EvalError → Result Frac EvalError → Type 0
Evaluates (Ok v) rule = rule ≡ Ok (frac_of v)
Evaluates (Err e) rule = rule ≡ Err e

-- the truth that the rule gives, or what stops it
abbrev pub Decides : Result Bool EvalError → Result Bool EvalError → Type 0
Decides (Ok b) rule = rule ≡ Ok b
Decides (Err e) rule = rule ≡ Err e
