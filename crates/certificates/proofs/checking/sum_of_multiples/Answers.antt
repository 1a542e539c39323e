use Rattle.std.proofs.Common.{rules, ◌≡◌, map, ap, ◌∙◌, Err, FitsSigned}
use Rattle.std.proofs.lemmas.Int.{to_z-of_z}
use Rattle.std.proofs.lemmas.Slice.Zip.{Zip-more, either_empty_from_Zip}
use Rattle.std.specs.Int.{w128}
use Rattle.std.specs.Iterator.Adapters.{zip_first, zip_second}
use Rattle.std.specs.Slice.Iter.{iter_rest}
use Rattle.linear_forms.specs.declared.error.LinError.TheVariants.{Overflow}
use Rattle.certificates.specs.Constraints.{constraint_of}
use Rattle.certificates.proofs.Left.{taken, none_left}
use Rattle.certificates.proofs.Running.{IsRunning, starts, goes_on, stops, is_sum, is_within}
use Rattle.certificates.proofs.checking.sum_of_multiples.Goals as goal

pub loop-constraint-init : goal.loop-constraint-init
loop-constraint-init c =
    let d = c.zip-constraint-items.ensures.second in
    let i = c.into_iter-constraint-iterator.ensures.into_iter_gives in
    let e : iter_rest (zip_first c.into_iter-constraint-iterator.result) ≡ c.args.constraints.now = ap (λ z. iter_rest (zip_first z)) i ∙ ap iter_rest c.zip-constraint-items.ensures.first ∙ c.iter.ensures.rest in
    let f : iter_rest (zip_second c.into_iter-constraint-iterator.result) ≡ c.args.multipliers.now = ap (λ z. iter_rest (zip_second z)) i ∙ d.0 in
    rw (e, f) (starts (map constraint_of c.args.constraints.now) c.args.multipliers.now c.constant-sum.result c.constant-sum.ensures.form)

pub returns-in_err-sum-clause-overflow : goal.returns-in_err-sum-clause-overflow
returns-in_err-sum-clause-overflow c =
    let cs = map constraint_of c.args.constraints.now in
    let ms = c.args.multipliers.now in
    let it = c.loop-constraint.constraint-iterator in
    let t = Zip-more it c.next.new.self c.next.result (c.in-Some.constraint, c.in-Some.multiplier) c.in-Some.is c.next.ensures.steps in
    let w : FitsSigned w128 c.in-Some.multiplier.now = search rules in
    let h = taken (IsRunning cs ms c.loop-constraint.sum) (iter_rest (zip_first it)) (iter_rest (zip_second it)) c.in-Some.constraint.now c.in-Some.multiplier.now _ _ t.0 t.1 c.loop-constraint.invariant in
    let p = simp to_z-of_z at c.combine.ensures.overflow in
    let e : c.from_residual.result ≡ Err c.in_err-sum.field-0.0 = search rules in
    λ o. let k : c.in_err-sum.field-0.0 ≡ Overflow = cc in stops cs ms c.loop-constraint.sum _ _ c.in-Some.multiplier.now _ h (p (c.in_err-sum.was ∙ ap Err k))

pub loop-constraint-preserved : goal.loop-constraint-preserved
loop-constraint-preserved c =
    let cs = map constraint_of c.args.constraints.now in
    let ms = c.args.multipliers.now in
    let it = c.loop-constraint.constraint-iterator in
    let t = Zip-more it c.next.new.self c.next.result (c.in-Some.constraint, c.in-Some.multiplier) c.in-Some.is c.next.ensures.steps in
    let w : FitsSigned w128 c.in-Some.multiplier.now = search rules in
    let h = taken (IsRunning cs ms c.loop-constraint.sum) (iter_rest (zip_first it)) (iter_rest (zip_second it)) c.in-Some.constraint.now c.in-Some.multiplier.now _ _ t.0 t.1 c.loop-constraint.invariant in
    goes_on cs ms c.loop-constraint.sum _ _ c.in-Some.multiplier.now _ h c.in_ok-sum.sum (simp to_z-of_z at c.in_ok-sum.ensures.combined)

pub returns-clause-sum : goal.returns-clause-sum
returns-clause-sum c =
    let it = c.loop-constraint.constraint-iterator in
    let e = either_empty_from_Zip it c.next.new.self c.next.result c.in-None.is c.next.ensures.steps in
    is_sum (map constraint_of c.args.constraints.now) c.args.multipliers.now c.loop-constraint.sum _ _ c.loop-constraint.invariant (none_left _ _ e)

pub returns-clause-within : goal.returns-clause-within
returns-clause-within c =
    let it = c.loop-constraint.constraint-iterator in
    let e = either_empty_from_Zip it c.next.new.self c.next.result c.in-None.is c.next.ensures.steps in
    is_within (map constraint_of c.args.constraints.now) c.args.multipliers.now c.loop-constraint.sum _ _ c.loop-constraint.invariant (none_left _ _ e)
