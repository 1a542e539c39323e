use Rattle.std.proofs.Common.{rules, ◌≡◌, sym, ◌∙◌, arith}
use Rattle.std.proofs.Math.IntN.{ℤ, pos, neg_ℤ, ◌-ℤ◌}
use Rattle.std.proofs.lemmas.Int.{ints, to_z-of_z}
use Rattle.exact_numbers.specs.Limit.{InLimit}
use Rattle.exact_numbers.proofs.Casts.{fits}
use Rattle.linear_opt.proofs.Orders.{rising, falling, level, same_so}
use Rattle.linear_opt.proofs.atoms.order_at.Goals as goal

turned : (a : ℤ) → InLimit a → InLimit (pos 0 -ℤ a)
turned a h = search rules

minus : (a : ℤ) → pos 0 -ℤ a ≡ neg_ℤ a
minus a = omega (arith, ints)

pub returns-in-Less : goal.returns-in-Less
returns-in-Less c =
    let f = fits c.args.factor c.requires.factor in
    let g = fits c.args.constant c.requires.constant in
    let n = fits c.args.z.numerator c.args.z.numerator_within in
    let d = fits c.args.z.denominator c.args.z.denominator_within in
    let m = fits (pos 0 -ℤ c.args.factor) (turned c.args.factor c.requires.factor) in
    simp to_z-of_z at c.compare_fractions.ensures ∙ falling c.args.factor (pos 0 -ℤ c.args.factor) c.args.constant c.args.z.numerator c.args.z.denominator (minus c.args.factor)

pub returns-in-Equal : goal.returns-in-Equal
returns-in-Equal c =
    let f = fits c.args.factor c.requires.factor in
    let g = fits c.args.constant c.requires.constant in
    let e = sym (simp to_z-of_z at c.cmp.ensures) ∙ c.in-Equal.is in
    simp to_z-of_z at c.cmp-in-Equal.ensures ∙ level c.args.factor c.args.constant c.args.z.numerator c.args.z.denominator (same_so c.args.factor (pos 0) e) c.args.z.positive

pub returns-in-Greater : goal.returns-in-Greater
returns-in-Greater c =
    let f = fits c.args.factor c.requires.factor in
    let g = fits c.args.constant c.requires.constant in
    let n = fits c.args.z.numerator c.args.z.numerator_within in
    let d = fits c.args.z.denominator c.args.z.denominator_within in
    let m = fits (pos 0 -ℤ c.args.constant) (turned c.args.constant c.requires.constant) in
    simp to_z-of_z at c.compare_fractions-in-Greater.ensures ∙ rising c.args.factor (pos 0 -ℤ c.args.constant) c.args.constant c.args.z.numerator c.args.z.denominator (minus c.args.constant)
