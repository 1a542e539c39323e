-- A fraction is a multiple of a modulus exactly where the residue is 0.
use Rattle.std.proofs.Common.{◌≡◌, ◌∙◌, sym, ap, arith}
use Rattle.std.proofs.Math.IntN.{ℤ, pos, ◌*ℤ◌}
use Rattle.std.specs.Prelude.{◌<ℤ◌, unsigned_abs}
use Rattle.std.specs.Bool.{Decides}
use Rattle.std.proofs.lemmas.Int.{ints}
use Rattle.std.proofs.lemmas.Bool.Decides.{Decides-int_eq, Decides-and, Decides-like}
use Rattle.exact_numbers.specs.Divides.{Divides, residue_of}
use Rattle.exact_numbers.specs.Frac.{Frac, IsProper, IsLowest, SameValue, whole_frac, true_product}
use Rattle.exact_numbers.proofs.Ring.{ring, mul_comm, mul_assoc, one_mul}
use Rattle.exact_numbers.proofs.Divisibility.{divides_same, divides_trans, divides_both, abs_sign, sign_abs}
use Rattle.exact_numbers.proofs.Floor.{divides_from_residue, residue_of_multiple}
use Rattle.exact_numbers.proofs.FractionRule.{same_value_trans}
use Rattle.written_syntax.specs.Rule.{is_multiple}
use Rattle.written_syntax.specs.Testable.{IsModulus}
use Rattle.written_syntax.proofs.ValueLaw.{Stands}

-- a whole number in lowest terms has the denominator 1
pub record IsWhole (v : Frac) (n : ℤ) : Type 0 where
  pub denominator : v.denominator ≡ pos 1
  pub numerator : v.numerator ≡ n

pub whole_in_lowest : (v : Frac) (n : ℤ) → IsProper v → IsLowest v → SameValue v (whole_frac n) → IsWhole v n
whole_in_lowest v n proper low same =
    let times : v.numerator ≡ v.denominator *ℤ n = simp ring (omega (arith, ints, simp ring at same)) in
    let above : Divides v.denominator v.numerator = record { quotient = n; exact = times } in
    let one : Divides v.denominator (pos 1) = low.greatest v.denominator above (divides_same v.denominator) in
    let back : Divides (pos 1) v.denominator = record { quotient = v.denominator; exact = omega (arith, ints) } in
    let unit : v.denominator ≡ pos 1 = divides_both (omega (arith, ints)) (omega (arith, ints)) one back in
    record { denominator = unit; numerator = times ∙ ap (λ d. d *ℤ n) unit ∙ omega (arith, ints) }

-- the modulus that is calculated is the whole number
pub modulus_whole : (v m : Frac) (n : ℤ) → Stands v m → SameValue m (whole_frac n) → IsWhole v n
modulus_whole v m n s same = whole_in_lowest v n s.proper s.in_lowest (same_value_trans v m (whole_frac n) s.meant s.same same)

-- the modulus that is calculated is not 0
pub modulus_not_zero : (v m : Frac) → Stands v m → IsModulus m → ¬ (v.numerator ≡ pos 0)
modulus_not_zero v m s is zero = is.1 (sym (modulus_whole v m is.0 s is.2).numerator ∙ zero)

-- a whole multiple of a modulus
multiple_crossed : (q n a b : ℤ) → a *ℤ pos 1 ≡ n *ℤ b → (q *ℤ n) *ℤ (pos 1 *ℤ b) ≡ (q *ℤ a) *ℤ pos 1
multiple_crossed q n a b e = mul_assoc q n (pos 1 *ℤ b) ∙ ap (λ t. q *ℤ (n *ℤ t)) (one_mul b) ∙ ap (λ t. q *ℤ t) (sym e) ∙ sym (mul_assoc q a (pos 1))

multiple_same : (q n : ℤ) (m : Frac) → SameValue m (whole_frac n) → SameValue (whole_frac (q *ℤ n)) (true_product (whole_frac q) m)
multiple_same q n m e = multiple_crossed q n m.numerator m.denominator e

same_back : (p q : Frac) → SameValue p q → SameValue q p
same_back p q e = sym e

one_times_positive : (d : ℤ) → pos 0 <ℤ d → pos 0 <ℤ (pos 1 *ℤ d)
one_times_positive d h = omega (arith, ints)

abs_positive : (n : ℤ) → ¬ (n ≡ pos 0) → pos 0 <ℤ pos (unsigned_abs n)
abs_positive n h = omega (arith, ints)

-- the difference d stands for e, and the modulus v for m
pub multiple_decides : (d v e m : Frac) → Stands d e → Stands v m → IsModulus m
    → Decides (is_multiple d v) ((q : ℤ) × SameValue e (true_product (whole_frac q) m))
multiple_decides d v e m sd sv is =
    let n = is.0 in
    let w = modulus_whole v m n sv is.2 in
    let positive : pos 0 <ℤ pos (unsigned_abs v.numerator) = abs_positive v.numerator (modulus_not_zero v m sv is) in
    let found : (d.denominator ≡ pos 1) × (residue_of d.numerator (pos (unsigned_abs v.numerator)) ≡ pos 0) → (q : ℤ) × SameValue e (true_product (whole_frac q) m) = λ both.
    let divided : Divides v.numerator d.numerator = divides_trans (sign_abs v.numerator) (divides_from_residue positive both.1) in
    let q = divided.quotient in
    let whole : SameValue d (whole_frac (q *ℤ n)) =
    let exact : d.numerator ≡ n *ℤ q = divided.exact ∙ ap (λ t. t *ℤ q) w.numerator in
    ap (λ t. t *ℤ pos 1) (exact ∙ mul_comm n q) ∙ ap (λ t. (q *ℤ n) *ℤ t) (sym both.0) in (
      q,
      same_value_trans e d (true_product (whole_frac q) m) sd.proper (same_back d e sd.same)
          (same_value_trans d (whole_frac (q *ℤ n)) (true_product (whole_frac q) m) (omega (arith, ints)) whole (multiple_same q n m is.2)),
    ) in
    let back : (q : ℤ) × SameValue e (true_product (whole_frac q) m) → (d.denominator ≡ pos 1) × (residue_of d.numerator (pos (unsigned_abs v.numerator)) ≡ pos 0) = λ given.
    let q = given.0 in
    let there = same_value_trans d e (true_product (whole_frac q) m) sd.meant sd.same given.1 in
    let whole = whole_in_lowest d (q *ℤ n) sd.proper sd.in_lowest
    (same_value_trans d (true_product (whole_frac q) m) (whole_frac (q *ℤ n)) (one_times_positive m.denominator sv.meant) there (same_back (whole_frac (q *ℤ n)) (true_product (whole_frac q) m) (multiple_same q n m is.2))) in
    let divided : Divides v.numerator d.numerator = record { quotient = q; exact = whole.numerator ∙ ap (λ t. q *ℤ t) (sym w.numerator) ∙ mul_comm q v.numerator } in
    (whole.denominator, residue_of_multiple positive (divides_trans (abs_sign v.numerator) divided)) in
    Decides-like (is_multiple d v) found back
    (Decides-and _ _ (Decides-int_eq d.denominator (pos 1)) (Decides-int_eq (residue_of d.numerator (pos (unsigned_abs v.numerator))) (pos 0)))
