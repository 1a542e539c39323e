use Rattle.std.proofs.Common.{◌≡◌, ◌+◌, ◌<◌, subst, sym, ap, ◌∙◌, rules, arith, FitsSigned, pos, ℤ, inl, inr, length, ◌⊎◌, ◌≤◌, List}
use Rattle.std.specs.Int.{w128, cast_unsigned}
use Rattle.std.proofs.lemmas.Int.{to_z-of_z}
use Rattle.exact_numbers.specs.Limit.{InLimit}
use Rattle.exact_numbers.proofs.Casts.{fits, zero_bits}
use Rattle.logic_meaning.specs.declared.form.VarId.{VarId}
use Rattle.linear_forms.specs.Linear.{terms_of}
use Rattle.linear_forms.proofs.MergeSteps.{merged_start, merged_nothing, merged_term, place_passes}
use Rattle.linear_forms.proofs.Peeling.{terms_of-push}
use Rattle.linear_forms.proofs.Places.{at_some, at_none, ok_unless}
use Rattle.linear_forms.proofs.merge.merge.Goals as goal

shorter : (xs ys xr yr : List (VarId × ℤ)) {P Q : Type 0} → P ⊎ Q → (P → length xr < length xs) → (Q → length yr < length ys) → length xr ≤ length xs → length yr ≤ length ys → length xr + length yr < length xs + length ys
shorter xs ys xr yr s f g h k = elim s [ inl p ↦ let a = f p in omega arith | inr q ↦ let b = g q in omega arith ]

pub loop-name-init : goal.loop-name-init
loop-name-init c =
    let fa = c.ranges.a in let fb = c.ranges.b in
    let s = merged_start c.args.a (terms_of c.args.left.now) c.args.b (terms_of c.args.right.now) c.requires.left_rising c.requires.right_rising in
    rw c.new-merged.ensures.items (simp to_z-of_z s)

pub peel-x-requires : goal.peel-x-requires
peel-x-requires c = record { rising = c.loop-name.invariant.left_rising; first = c.in-Some.ensures.left }

pub peel-y-requires : goal.peel-y-requires
peel-y-requires c = record { rising = c.loop-name.invariant.right_rising; first = c.in-Some.ensures.right }

pub loop-name-preserved : goal.loop-name-preserved
loop-name-preserved c =
    let fa = c.ranges.a in let fb = c.ranges.b in
    let x = c.peel-x.result.0 in let y = c.peel-y.result.0 in
    let fx : FitsSigned w128 x = search rules in let fy : FitsSigned w128 y = search rules in
    let p = at_some c.place.result c.in_ok-number.number _ _ c.in_ok-number.ensures.ok_part (simp to_z-of_z at c.place.ensures) in
    let i = simp to_z-of_z at c.loop-name.invariant in
    let n = zero_bits c.in_ok-number.number (subst (λ (k : ℤ). InLimit k) (sym p.0) p.1.sum) c.if-number-ne0.false in
    simp to_z-of_z (merged_nothing c.in-Some.name.number x y (terms_of c.peel-x.result.1.now) (terms_of c.peel-y.result.1.now) i c.peel-x.ensures.peeled c.peel-y.ensures.peeled p.1 (sym p.0 ∙ n))

pub loop-name-preserved-in-Continue-branch-2 : goal.loop-name-preserved-in-Continue-branch-2
loop-name-preserved-in-Continue-branch-2 c =
    let fa = c.ranges.a in let fb = c.ranges.b in
    let x = c.peel-x.result.0 in let y = c.peel-y.result.0 in
    let fx : FitsSigned w128 x = search rules in let fy : FitsSigned w128 y = search rules in
    let n = c.in_ok-number.number in
    let p = at_some c.place.result n _ _ c.in_ok-number.ensures.ok_part (simp to_z-of_z at c.place.ensures) in
    let fn = fits n (subst (λ (k : ℤ). InLimit k) (sym p.0) p.1.sum) in
    let i = simp to_z-of_z at c.loop-name.invariant in
    let z : ¬ (n ≡ pos 0) = λ (e : n ≡ pos 0). c.if-number-ne0.true (ap (cast_unsigned w128) e) in
    let items = rw (← c.in_ok-map_err.ensures.variant) at (simp to_z-of_z at c.push.ensures.items) in
    let h = merged_term c.in-Some.name.number x y (terms_of c.peel-x.result.1.now) (terms_of c.peel-y.result.1.now) i c.peel-x.ensures.peeled c.peel-y.ensures.peeled n c.in-Some.ensures p.1 p.0 z in
    let k = rw (← terms_of-push c.loop-name.merged.items (c.in-Some.name, n)) at h in
    rw items (simp to_z-of_z k)

pub loop-name-smaller : goal.loop-name-smaller
loop-name-smaller c = shorter c.loop-name.left.now c.loop-name.right.now c.peel-x.result.1.now c.peel-y.result.1.now c.in-Some.ensures.stands c.peel-x.ensures.shorter c.peel-y.ensures.shorter c.peel-x.ensures.no_longer c.peel-y.ensures.no_longer

pub loop-name-smaller-in-Continue-branch-2 : goal.loop-name-smaller-in-Continue-branch-2
loop-name-smaller-in-Continue-branch-2 c = shorter c.loop-name.left.now c.loop-name.right.now c.peel-x.result.1.now c.peel-y.result.1.now c.in-Some.ensures.stands c.peel-x.ensures.shorter c.peel-y.ensures.shorter c.peel-x.ensures.no_longer c.peel-y.ensures.no_longer

pub returns-in_err-number : goal.returns-in_err-number
returns-in_err-number c =
    let fa = c.ranges.a in let fb = c.ranges.b in
    let x = c.peel-x.result.0 in let y = c.peel-y.result.0 in
    let fx : FitsSigned w128 x = search rules in let fy : FitsSigned w128 y = search rules in
    let p = at_none c.place.result _ _ c.in_err-number.ensures.ok_part (simp to_z-of_z at c.place.ensures) in
    let i = simp to_z-of_z at c.loop-name.invariant in
    record {
      merged = ok_unless c.from_residual.result _ c.from_residual.ensures.0;
      overflow = λ _. (c.in-Some.name.number, place_passes c.in-Some.name.number x y (terms_of c.peel-x.result.1.now) (terms_of c.peel-y.result.1.now) i c.peel-x.ensures.peeled c.peel-y.ensures.peeled p);
    }

pub returns : goal.returns
returns c =
    let fa = c.ranges.a in let fb = c.ranges.b in
    let i = simp to_z-of_z at c.loop-name.invariant in
    record { merged = rw (c.in_default.ensures.0, c.in_default.ensures.1) at i; overflow = λ e. absurd (cc) }
