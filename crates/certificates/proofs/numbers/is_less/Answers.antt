use Rattle.std.proofs.Common.{◌≡◌, Bool, true, false, cond, refl, ap, ◌∙◌, int_cmp, is_lt, Less, Greater, Equal}
use Rattle.std.specs.Prelude.{◌*ℤ◌, int_lt}
use Rattle.std.proofs.lemmas.Int.{to_z-of_z}
use Rattle.exact_numbers.proofs.Casts.{fits}
use Rattle.certificates.proofs.numbers.is_less.Goals as goal

less : (a b : Bool) → is_lt (cond a Less (cond b Greater Equal)) ≡ a
less true b = refl
less false true = refl
less false false = refl

pub returns : goal.returns
returns c =
    let a = c.args.a in
    let b = c.args.b in
    let fan = fits a.numerator a.numerator_within in
    let fad = fits a.denominator a.denominator_within in
    let fbn = fits b.numerator b.numerator_within in
    let fbd = fits b.denominator b.denominator_within in
    let e : c.compare_fractions.result ≡ int_cmp (a.numerator *ℤ b.denominator) (b.numerator *ℤ a.denominator) = simp to_z-of_z at c.compare_fractions.ensures in
    c.is_lt.ensures ∙ ap is_lt e ∙ less (int_lt (a.numerator *ℤ b.denominator) (b.numerator *ℤ a.denominator)) (int_lt (b.numerator *ℤ a.denominator) (a.numerator *ℤ b.denominator))
