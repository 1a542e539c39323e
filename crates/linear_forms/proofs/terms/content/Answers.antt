use Rattle.std.proofs.Common.{take_all, ◌≡◌, pos, ℤ, rules, arith, get_or, take}
use Rattle.std.proofs.lemmas.Int.{ints, to_z-of_z}
use Rattle.exact_numbers.proofs.Contents.{content_unique, content_is}
use Rattle.exact_numbers.proofs.Casts.{fits}
use Rattle.logic_meaning.specs.declared.form.VarId.{VarId}
use Rattle.logic_meaning.specs.Terms.{coefficients}
use Rattle.linear_forms.specs.Linear.{terms_of}
use Rattle.linear_forms.proofs.Division.{within_at, content_nothing, content_more}
use Rattle.linear_forms.proofs.terms.content.Goals as goal

pub loop-term-init : goal.loop-term-init
loop-term-init c = record { within = omega arith; divisor = content_nothing }

pub gcd-divisor-requires : goal.gcd-divisor-requires
gcd-divisor-requires c =
    let d : VarId × ℤ = (record { number = 0 }, pos 0) in
    let w = within_at c.args.terms.now c.loop-term.term-index d c.requires c.loop-term-test.true in
    record { first_within = c.loop-term.invariant.within; second_within = omega (arith, ints) }

pub loop-term-preserved : goal.loop-term-preserved
loop-term-preserved c =
    let d : VarId × ℤ = (record { number = 0 }, pos 0) in
    let i = c.loop-term.term-index in
    let fp = fits (get_or c.args.terms.now i d).1 (within_at c.args.terms.now i d c.requires c.loop-term-test.true) in
    let fg = fits c.gcd-divisor.result c.gcd-divisor.ensures.within in
    let g = simp to_z-of_z at c.gcd-divisor.ensures.greatest in
    let more = content_more c.args.terms.now i d _ c.gcd-divisor.result c.loop-term-test.true c.loop-term.invariant.divisor g in
    let w = c.gcd-divisor.ensures.within in
    record { within = omega (arith, ints); divisor = simp to_z-of_z more }

pub returns : goal.returns
returns c =
    let e : take c.loop-term.term-index c.args.terms.now ≡ c.args.terms.now = search (rules, take_all, c.loop-term-test.false) in
    let g = rw e at c.loop-term.invariant.divisor in
    record { greatest = g; value = content_unique g (content_is (coefficients (terms_of c.args.terms.now))); within = c.loop-term.invariant.within }
