use Rattle.std.proofs.Math.IntN.{◌*ℤ◌}
use Rattle.std.proofs.lemmas.Int.{to_z-of_z}
use Rattle.exact_numbers.proofs.Casts.{fits}
use Rattle.linear_opt.proofs.Orders.{not_less}
use Rattle.linear_opt.proofs.least.is_less.Goals as goal

pub returns-in-Equal : goal.returns-in-Equal
returns-in-Equal c =
    let a = fits c.args.a.numerator c.args.a.numerator_within in
    let b = fits c.args.a.denominator c.args.a.denominator_within in
    let d = fits c.args.b.numerator c.args.b.numerator_within in
    let e = fits c.args.b.denominator c.args.b.denominator_within in
    not_less (c.args.a.numerator *ℤ c.args.b.denominator) (c.args.b.numerator *ℤ c.args.a.denominator) c.compare_fractions.result (simp to_z-of_z at c.compare_fractions.ensures) c.in-Equal.is
