-- The values found, as numerators over denominators.
use Rattle.std.proofs.Common.{◌≡◌, List, [], ◌∷◌, map, refl, ap, ◌∙◌}
use Rattle.std.proofs.Math.IntN.{ℤ}
use Rattle.std.specs.Prelude.{Result, Ok, Err, IfOk, reverse}
use Rattle.std.specs.declared.vec.Vec.{Vec}
use Rattle.std.specs.declared.alloc.Global.{Global}
use Rattle.exact_numbers.specs.declared.fraction.Fraction.{Fraction}
use Rattle.logic_meaning.specs.declared.form.VarId.{VarId}
use Rattle.sample_reference.specs.Seen.{values_of}
use Rattle.certificates.specs.Certificates.{value_of}
use Rattle.certificates.specs.Found.{ValueList, found_of}

abbrev pub numbers_of : VarId × Fraction → VarId × ℤ × ℤ
numbers_of p = (p.0, p.1.numerator, p.1.denominator)

numbers_are : (list : List (VarId × Fraction)) → map value_of (map numbers_of list) ≡ values_of list
numbers_are [] = refl
numbers_are (p ∷ list) = ap (λ vs. record { name = p.0.number; at = record { numerator = p.1.numerator; denominator = p.1.denominator } } ∷ vs) (numbers_are list)

-- a list of them means the values
pub point_of_found : {E : Type 0} (list : List (VarId × Fraction)) (vs : ValueList) (r : Result (Vec (VarId × ℤ × ℤ) Global) E) → found_of list ≡ vs → IfOk r (λ v. v.items ≡ map numbers_of (reverse list)) → IfOk r (λ v. map value_of v.items ≡ vs)
point_of_found list vs (Ok v) e h = ap (map value_of) h ∙ numbers_are (reverse list) ∙ e
point_of_found list vs (Err x) e h = tt
