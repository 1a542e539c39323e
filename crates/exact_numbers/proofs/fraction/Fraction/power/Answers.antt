use Rattle.std.proofs.Common.{◌≡◌, ◌∙◌, ap}
use Rattle.exact_numbers.specs.Frac.{power_steps}
use Rattle.exact_numbers.specs.Fraction.{frac_of}
use Rattle.exact_numbers.proofs.Powers.{unit_power}
use Rattle.exact_numbers.proofs.FractionView.{power_given}
use Rattle.exact_numbers.proofs.fraction.Fraction.power.Goals as goal
use Rattle.exact_numbers.proofs.fraction.Fraction.power.Goals.{then-is_unit+then-exponent-gt2, else-is_unit}

pub returns : goal.returns
returns c =
    let p = frac_of c.args.self in
    let n = c.args.exponent in
    let e : power_steps p c.if-is_unit.repeated ≡ power_steps p n =
    elim c.if-is_unit.branch [
      | then-is_unit+then-exponent-gt2 w ↦ ap (power_steps p) w.repeated-is ∙ unit_power p n (c.is_unit.ensures.0 w.if-is_unit.true) w.if-exponent-gt2.true
      | else-is_unit w ↦ ap (power_steps p) w.repeated-is
    ]
    in
    let r = c.repeated.ensures ∙ e in
    record { rule = r; outcome = power_given c.repeated.result p n c.args.self.positive r }
