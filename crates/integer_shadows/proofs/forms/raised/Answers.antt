use Rattle.std.proofs.Common.{◌≡◌, ap, sym, ◌∙◌, subst}
use Rattle.std.proofs.Math.IntN.{◌+ℤ◌}
use Rattle.exact_numbers.specs.Limit.{InLimit}
use Rattle.std.proofs.lemmas.Int.{to_z-of_z}
use Rattle.exact_numbers.proofs.Casts.{fits}
use Rattle.integer_shadows.proofs.Making.{is_raised}
use Rattle.integer_shadows.proofs.forms.raised.Goals as goal

pub returns : goal.returns
returns c =
    let fn = c.ranges.number in
    let f = c.args.form in
    let fk = fits c.constant_part.result (subst (λ z. InLimit z) (sym c.constant_part.ensures.value) c.constant_part.ensures.linear.constant_within) in
    let h = simp to_z-of_z at c.in_ok-constant.ensures.value in
    let fr = fits c.in_ok-constant.constant h.1 in
    let e : c.in_ok-constant.constant ≡ f.constant +ℤ c.args.number = h.0 ∙ ap (λ z. z +ℤ c.args.number) c.constant_part.ensures.value in
    is_raised c.args.number c.in_ok-constant.constant f c.with_constant.result e (simp to_z-of_z at c.with_constant.ensures.form) c.with_constant.ensures.linear
