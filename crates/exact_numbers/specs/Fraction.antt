-- What a fraction of the program stands for.
use Rattle.exact_numbers.specs.declared.fraction.Fraction.{Fraction}
use Rattle.exact_numbers.specs.Frac.{Frac}

-- its numerator over its denominator
abbrev pub frac_of : Fraction → Frac
frac_of f = record { numerator = f.numerator; denominator = f.denominator }
