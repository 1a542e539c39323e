use Rattle.std.proofs.Common.{rules, ◌≤◌, ◌<◌, arith}
use Rattle.redlog_run.proofs.Values.{fits_next}
use Rattle.redlog_run.proofs.value.number_of.Goals as goal

pub overflow_mul-number : goal.overflow_mul-number
overflow_mul-number c =
    let within : c.digits.digit-index < 10 = omega (arith, c.requires, c.digits-test.true) in
    let small = fits_next c.digits.digit-index c.digits.number 0 within c.digits.invariant.1 (omega arith) in
    search (rules, small)

pub overflow_add-number : goal.overflow_add-number
overflow_add-number c =
    let within : c.digits.digit-index < 10 = omega (arith, c.requires, c.digits-test.true) in
    let low : c.saturating_sub.result ≤ 255 = search rules in
    let small = fits_next c.digits.digit-index c.digits.number c.saturating_sub.result within c.digits.invariant.1 low in
    search (rules, small)
