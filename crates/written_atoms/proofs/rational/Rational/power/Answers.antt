use Rattle.std.proofs.Common.{◌≡◌, Some, None, option_map, pos, ap, sym, ◌∙◌, subst, arith}
use Rattle.std.specs.Prelude.{unsigned_abs}
use Rattle.std.proofs.lemmas.Int.{to_z-of_z}
use Rattle.exact_numbers.specs.Frac.{IsLowest, power_steps}
use Rattle.exact_numbers.specs.Fraction.{frac_of}
use Rattle.exact_numbers.proofs.Casts.{fits, zero_bits, same_bits}
use Rattle.language_meaning.specs.RationalForms.{constant_form, power_of_form, small_power}
use Rattle.written_syntax.specs.Proper.{IsNumeral}
use Rattle.written_atoms.specs.Rational.{rational_of, there}
use Rattle.written_atoms.proofs.StepCases.{power_past, power_of_constant, power_of_other, large_power, constant_lowest, above_one}
use Rattle.written_atoms.proofs.rational.Rational.power.Goals as goal

pub returns-in_default : goal.returns-in_default
returns-in_default c = sym (ap (λ n. there (power_of_form (rational_of c.args.self) n)) c.in_default.is ∙ power_past (rational_of c.args.self))

pub power-requires : goal.power-requires
power-requires c = subst IsLowest (sym c.constant_part.ensures) (constant_lowest (rational_of c.args.self) (sym c.if-is_constant.ensures) c.requires.lowest)

pub returns-in_err-power : goal.returns-in_err-power
returns-in_err-power c =
    let p = rational_of c.args.self in
    let n = c.in-Fits.exponent in
    let fn = fits n (subst IsNumeral c.in-Fits.is c.requires.numeral).1 in
    let k : None ≡ power_steps (frac_of c.constant_part.result) (unsigned_abs n) = simp to_z-of_z at c.in_err-power.ensures.rule in
    let e = k ∙ ap (λ v. power_steps v (unsigned_abs n)) c.constant_part.ensures in
    ap (option_map rational_of) c.from_residual.ensures ∙ ap (option_map constant_form) e ∙ sym (ap (λ n. there (power_of_form p n)) c.in-Fits.is ∙ power_of_constant p n (sym c.if-is_constant.ensures))

pub returns-then-is_constant : goal.returns-then-is_constant
returns-then-is_constant c =
    let p = rational_of c.args.self in
    let n = c.in-Fits.exponent in
    let fn = fits n (subst IsNumeral c.in-Fits.is c.requires.numeral).1 in
    let k : Some (frac_of c.in_ok-power.power) ≡ power_steps (frac_of c.constant_part.result) (unsigned_abs n) = simp to_z-of_z at c.in_ok-power.ensures.rule in
    let e = k ∙ ap (λ v. power_steps v (unsigned_abs n)) c.constant_part.ensures in
    ap Some c.constant.ensures ∙ ap (option_map constant_form) e ∙ sym (ap (λ n. there (power_of_form p n)) c.in-Fits.is ∙ power_of_constant p n (sym c.if-is_constant.ensures))

pub returns-then-exponent-eq0 : goal.returns-then-exponent-eq0
returns-then-exponent-eq0 c =
    let p = rational_of c.args.self in
    let n = c.in-Fits.exponent in
    let z = zero_bits n (subst IsNumeral c.in-Fits.is c.requires.numeral).1 c.if-exponent-eq0.true in
    ap Some (c.constant-then-exponent-eq0.ensures ∙ ap constant_form c.whole.ensures.value)
    ∙ sym (ap (λ n. there (power_of_form p n)) c.in-Fits.is ∙ ap there (power_of_other p n (sym c.if-is_constant.ensures)) ∙ ap (λ z. there (small_power p (unsigned_abs z))) z)

pub returns-then-exponent-eq1 : goal.returns-then-exponent-eq1
returns-then-exponent-eq1 c =
    let p = rational_of c.args.self in
    let n = c.in-Fits.exponent in
    let z = same_bits n (pos 1) (subst IsNumeral c.in-Fits.is c.requires.numeral).1 (omega arith) c.if-exponent-eq1.true in
    sym (ap (λ n. there (power_of_form p n)) c.in-Fits.is ∙ ap there (power_of_other p n (sym c.if-is_constant.ensures)) ∙ ap (λ z. there (small_power p (unsigned_abs z))) z)

pub returns-else-exponent-eq1 : goal.returns-else-exponent-eq1
returns-else-exponent-eq1 c =
    let p = rational_of c.args.self in
    let n = c.in-Fits.exponent in
    let h = above_one n (subst IsNumeral c.in-Fits.is c.requires.numeral).0 c.if-exponent-eq0.false c.if-exponent-eq1.false in
    sym (ap (λ n. there (power_of_form p n)) c.in-Fits.is ∙ ap there (power_of_other p n (sym c.if-is_constant.ensures) ∙ large_power p (unsigned_abs n) h))
