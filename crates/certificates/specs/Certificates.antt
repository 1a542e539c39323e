-- What the program's certificates mean.
use Rattle.std.specs.Prelude.{ℤ, pos, ◌<ℤ◌, map, All}
use Rattle.exact_numbers.specs.Limit.{InLimit}
use Rattle.logic_meaning.specs.declared.form.VarId.{VarId}
use Rattle.logic_meaning.specs.Values.{Value}
use Rattle.logic_meaning.specs.Search as search
use Rattle.certificates.specs.declared.certificate.Certificate.{Certificate}
use Rattle.certificates.specs.declared.certificate.Certificate.TheVariants.{Point, Farkas}

-- a name, and the numerator and the denominator of its value
abbrev pub value_of : VarId × ℤ × ℤ → Value
value_of v = record { name = v.0.number; at = record { numerator = v.1; denominator = v.2 } }

-- the certificate
abbrev pub certificate_of : Certificate → search.Certificate
certificate_of (Point vs) = search.At (map value_of vs.items)
certificate_of (Farkas ms) = search.Farkas ms.items

-- numerator and denominator are within the limit of exact_numbers, and the denominator is positive
pub record IsWithin (v : VarId × ℤ × ℤ) : Type 0 where
  pub numerator_within : InLimit v.1
  pub denominator_within : InLimit v.2
  pub positive : pos 0 <ℤ v.2

-- all numbers of the certificate are within the limit
abbrev pub HasNumbersWithin : Certificate → Type 0
HasNumbersWithin (Point vs) = All IsWithin vs.items
HasNumbersWithin (Farkas ms) = All InLimit ms.items
