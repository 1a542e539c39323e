use Rattle.std.proofs.Common.{◌≡◌, pos, ℤ, arith, get_or, take, sym, ap, ◌∙◌, ◌+◌, refl}
use Rattle.std.specs.Prelude.{int_div}
use Rattle.std.specs.Int.{w128, cast_unsigned, cast_signed}
use Rattle.std.specs.List.{AllZip}
use Rattle.std.proofs.lemmas.List.{get_or_default}
use Rattle.std.proofs.lemmas.List.Elements.{all_zip_more}
use Rattle.std.proofs.lemmas.Int.{to_z-of_z}
use Rattle.exact_numbers.proofs.Casts.{fits}
use Rattle.exact_numbers.proofs.LeastMultiple.{exact_div}
use Rattle.logic_meaning.specs.declared.form.VarId.{VarId}
use Rattle.linear_forms.specs.Linear.{IsDivided}
use Rattle.linear_forms.proofs.Division.{within_at, divides_at, exact_quotient_fits}
use Rattle.linear_forms.proofs.terms.divided.Goals as goal

pub nonzero_div-term : goal.nonzero_div-term
nonzero_div-term c =
    let d : VarId × ℤ = (record { number = 0 }, pos 0) in
    let i = c.loop-term.term-index in
    let p = get_or c.args.terms.now i d in
    let w = within_at c.args.terms.now i d c.requires.within c.loop-term-test.true in
    let fp = fits p.1 w in
    let fb = c.ranges.by in
    let q = exact_quotient_fits c.args.by p.1 c.requires.nonzero (divides_at c.args.by c.args.terms.now i d c.requires.divides c.loop-term-test.true) w in
    let n : ¬ (cast_unsigned w128 c.args.by ≡ 0) = λ e. c.requires.nonzero (sym (to_z-of_z w128 c.args.by fb) ∙ ap (cast_signed w128) e) in
    (omega arith, simp to_z-of_z q)

pub loop-term-preserved : goal.loop-term-preserved
loop-term-preserved c =
    let d : VarId × ℤ = (record { number = 0 }, pos 0) in
    let i = c.loop-term.term-index in
    let p = get_or c.args.terms.now i d in
    let w = within_at c.args.terms.now i d c.requires.within c.loop-term-test.true in
    let fp = fits p.1 w in
    let fb = c.ranges.by in
    let h = divides_at c.args.by c.args.terms.now i d c.requires.divides c.loop-term-test.true in
    let q = exact_quotient_fits c.args.by p.1 c.requires.nonzero h w in
    let items = simp to_z-of_z at c.in_ok-push.ensures.items in
    let inv : AllZip (IsDivided c.args.by) (take i c.args.terms.now) c.loop-term.quotients.items = simp to_z-of_z at c.loop-term.invariant in
    let r : IsDivided c.args.by p (p.0, int_div p.1 c.args.by) = record { same_name = refl; times = exact_div c.args.by p.1 c.requires.nonzero h } in
    let z : AllZip (IsDivided c.args.by) (take (i + 1) c.args.terms.now) c.push.new.self.items =
    rw items (all_zip_more (IsDivided c.args.by) c.args.terms.now c.loop-term.quotients.items i p (p.0, int_div p.1 c.args.by) c.loop-term-test.true (get_or_default c.args.terms.now i d p c.loop-term-test.true) inv r)
    in
    simp to_z-of_z z
