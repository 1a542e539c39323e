use Rattle.std.proofs.Common.{subst, map}
use Rattle.std.specs.Prelude.{int_div}
use Rattle.std.specs.Int.{w128}
use Rattle.std.proofs.lemmas.Int.{to_z-of_z, quot_fits}
use Rattle.std.proofs.lemmas.Result.{IfOk-weaker}
use Rattle.exact_numbers.specs.Divides.{IsGcd}
use Rattle.exact_numbers.proofs.Casts.{fits}
use Rattle.logic_meaning.specs.Form.{coefficient}
use Rattle.normal_atoms.specs.Atoms.{atom_of}
use Rattle.integer_shadows.specs.declared.pairs.Paired.{Paired}
use Rattle.integer_shadows.specs.Pairs.{IsMoreByBounds, IsSettled}
use Rattle.integer_shadows.proofs.Casting.{divisor_positive, two_sided}
use Rattle.integer_shadows.proofs.shadow.between.Goals as goal

pub returns-clause-shadow : goal.returns-clause-shadow
returns-clause-shadow c =
    let x = c.args.name.number in let b = c.args.bounds.now in
    let hm = c.requires.modulus in
    let fm = fits b.modulus hm.1 in
    let g = c.gcd-divisor.result in let fg = fits g c.gcd-divisor.ensures.within in
    let fc = fits c.coefficient.result c.coefficient.ensures.within in
    let gcd : IsGcd (coefficient x b.class) b.modulus g = subst (λ z. IsGcd z b.modulus g) c.coefficient.ensures.value (simp to_z-of_z at c.gcd-divisor.ensures.greatest) in
    let fs = quot_fits w128 b.modulus g fm (divisor_positive b.modulus (coefficient x b.class) g hm.0 gcd) in
    let start : Paired = record { shadow = c.in_ok-shadow.shadow; needs = c.new.result } in
    let cond = simp to_z-of_z at c.in_ok-shadow.ensures in
    let more = simp to_z-of_z at c.in_ok-paired.ensures in
    let all : IsMoreByBounds x (int_div b.modulus g) b.lower.items b.upper.items start c.in_ok-paired.paired =
    subst (λ us. IsMoreByBounds x (int_div b.modulus g) b.lower.items us start c.in_ok-paired.paired) c.deref-2.ensures.value
    (subst (λ ls. IsMoreByBounds x (int_div b.modulus g) ls c.deref-2.result.now start c.in_ok-paired.paired) c.deref.ensures.value more) in
    IfOk-weaker _ _ _
    (λ s h. two_sided x c.args.shadow b g hm gcd (map atom_of c.args.given.now) start c.in_ok-paired.paired s c.requires.differing c.requires.lower cond all
    (subst (λ vs. IsSettled (map atom_of c.args.given.now) (map atom_of vs) c.in_ok-paired.paired.shadow s) c.deref-3.ensures.value h))
    c.settled.ensures.settled
