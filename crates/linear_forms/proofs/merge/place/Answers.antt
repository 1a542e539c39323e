use Rattle.std.proofs.Common.{◌≡◌}
use Rattle.std.specs.Prelude.{◌+ℤ◌, ◌*ℤ◌}
use Rattle.std.proofs.lemmas.Int.{to_z-of_z}
use Rattle.exact_numbers.specs.Limit.{checked}
use Rattle.exact_numbers.proofs.Casts.{fits}
use Rattle.exact_numbers.proofs.Limits.{formed_by}
use Rattle.linear_forms.proofs.Places.{place_given}
use Rattle.linear_forms.proofs.merge.place.Goals as goal

pub returns : goal.returns
returns c =
    let a = c.args.a in let x = c.args.x in let b = c.args.b in let y = c.args.y in
    let fa = c.ranges.a in let fx = c.ranges.x in let fb = c.ranges.b in let fy = c.ranges.y in
    let p = formed_by (a *ℤ x) c.in_ok-product.field-0 (simp to_z-of_z at c.in_ok-product.ensures.rule) in
    let q = formed_by (b *ℤ y) c.in_ok-product-2.field-0 (simp to_z-of_z at c.in_ok-product-2.ensures.rule) in
    let fp = fits c.in_ok-product.field-0 p.within in let fq = fits c.in_ok-product-2.field-0 q.within in
    let e : c.sum.result ≡ checked (a *ℤ x +ℤ b *ℤ y) = rw (p.same, q.same) at (simp to_z-of_z at c.sum.ensures.rule) in
    place_given c.sum.result (a *ℤ x) (b *ℤ y) (rw p.same at p.within) (rw q.same at q.within) e
