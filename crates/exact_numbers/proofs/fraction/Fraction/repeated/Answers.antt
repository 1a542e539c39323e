use Rattle.std.proofs.Common.{Some, ◌+◌, ◌∙◌, ap, sym, arith}
use Rattle.std.specs.Prelude.{option_map}
use Rattle.exact_numbers.specs.Fraction.{frac_of}
use Rattle.exact_numbers.proofs.Powers.{power_zero, power_next, power_after}
use Rattle.exact_numbers.proofs.fraction.Fraction.repeated.Goals as goal

pub loop-done-init : goal.loop-done-init
loop-done-init c = record { within = omega arith; formed = power_zero (frac_of c.args.self) ∙ ap Some (sym c.whole-power.ensures.value) }

pub returns-in_err-power : goal.returns-in_err-power
returns-in_err-power c =
    let p = frac_of c.args.self in
    let n = c.loop-done.done in
    let e = power_next p (frac_of c.loop-done.power) n c.loop-done.invariant.formed ∙ sym c.in_err-power.ensures.rule in
    let h = c.loop-done-test.true in
    ap (option_map frac_of) c.from_residual.ensures ∙ sym (power_after p (n + 1) c.args.factors (omega arith) e)

pub loop-done-preserved : goal.loop-done-preserved
loop-done-preserved c =
    let h = c.loop-done-test.true in
    record {
      within = omega arith;
      formed = power_next (frac_of c.args.self) (frac_of c.loop-done.power) c.loop-done.done c.loop-done.invariant.formed ∙ sym c.in_ok-power.ensures.rule;
    }
