use Rattle.std.proofs.Common.{◌≡◌, sym, ◌∙◌, ap, arith, length}
use Rattle.std.specs.Int.{w128}
use Rattle.std.proofs.lemmas.Int.{to_z-of_z}
use Rattle.linear_forms.specs.Linear.{term_of}
use Rattle.logic_meaning.specs.Reduction.{quotients}
use Rattle.normal_atoms.proofs.Places.{same_before_start, same_before_next, differ_here, read_term, nothing_read, place_there, within_place, same_to_end, other_length}
use Rattle.normal_atoms.proofs.quotients.are_same.Goals as goal

pub returns-then-places : goal.returns-then-places
returns-then-places c = other_length c.args.divisor c.args.form.now.terms c.args.other_divisor c.args.other.now.terms (λ e. c.if-places.true (c.places-places.ensures ∙ e ∙ sym c.places.ensures))

pub loop-place-init : goal.loop-place-init
loop-place-init c = same_before_start _ c.args.form.now.terms _ c.args.other.now.terms

pub returns-in_default : goal.returns-in_default
returns-in_default c = absurd (place_there c.args.other.now.terms c.loop-place.place (omega arith) (nothing_read c.args.other.now.terms c.loop-place.place c.term-in-loop-place.ensures.value c.in_default.is-1))

pub returns-in_default-2 : goal.returns-in_default-2
returns-in_default-2 c = absurd (place_there c.args.form.now.terms c.loop-place.place (omega arith) (nothing_read c.args.form.now.terms c.loop-place.place c.term.ensures.value c.in_default.is-0))

pub is_same-requires-clause-within : goal.is_same-requires-clause-within
is_same-requires-clause-within c =
    within_place c.args.form.now.terms c.loop-place.place (term_of c.in-Some-Some.term) (read_term c.in-Some-Some.term c.args.form.now.terms c.loop-place.place c.term.ensures.value c.in-Some-Some.is-0) c.term.ensures.linear.within

pub is_same-requires-clause-other_within : goal.is_same-requires-clause-other_within
is_same-requires-clause-other_within c =
    within_place c.args.other.now.terms c.loop-place.place (term_of c.in-Some-Some.other_term) (read_term c.in-Some-Some.other_term c.args.other.now.terms c.loop-place.place c.term-in-loop-place.ensures.value c.in-Some-Some.is-1) c.term-in-loop-place.ensures.linear.within

pub returns-then-not-is_same : goal.returns-then-not-is_same
returns-then-not-is_same c =
    let d = to_z-of_z w128 c.args.divisor c.ranges.divisor in
    let e = to_z-of_z w128 c.args.other_divisor c.ranges.other_divisor in
    let x = read_term c.in-Some-Some.term c.args.form.now.terms c.loop-place.place c.term.ensures.value c.in-Some-Some.is-0 in
    let y = read_term c.in-Some-Some.other_term c.args.other.now.terms c.loop-place.place c.term-in-loop-place.ensures.value c.in-Some-Some.is-1 in
    let n = differ_here _ c.args.form.now.terms _ c.args.other.now.terms c.loop-place.place c.loop-place.invariant (term_of c.in-Some-Some.term) (term_of c.in-Some-Some.other_term) x y c.if-not-is_same.ensures in
    λ h. n (ap (λ k. quotients k c.args.form.now.terms) d ∙ h ∙ sym (ap (λ k. quotients k c.args.other.now.terms) e))

pub loop-place-preserved : goal.loop-place-preserved
loop-place-preserved c =
    let x = read_term c.in-Some-Some.term c.args.form.now.terms c.loop-place.place c.term.ensures.value c.in-Some-Some.is-0 in
    let y = read_term c.in-Some-Some.other_term c.args.other.now.terms c.loop-place.place c.term-in-loop-place.ensures.value c.in-Some-Some.is-1 in
    same_before_next _ c.args.form.now.terms _ c.args.other.now.terms c.loop-place.place c.loop-place.invariant (term_of c.in-Some-Some.term) (term_of c.in-Some-Some.other_term) x y c.if-not-is_same.ensures

pub returns : goal.returns
returns c =
    let d = to_z-of_z w128 c.args.divisor c.ranges.divisor in
    let e = to_z-of_z w128 c.args.other_divisor c.ranges.other_divisor in
    let end : c.loop-place.place ≡ c.places-places.result = omega (arith, c.loop-place.auto.place-end) in
    let x : length c.args.form.now.terms ≡ c.loop-place.place = omega arith in
    let y : length c.args.other.now.terms ≡ c.loop-place.place = omega arith in
    let h = same_to_end _ c.args.form.now.terms _ c.args.other.now.terms c.loop-place.place c.loop-place.invariant x y in
    sym (ap (λ k. quotients k c.args.form.now.terms) d) ∙ h ∙ ap (λ k. quotients k c.args.other.now.terms) e
