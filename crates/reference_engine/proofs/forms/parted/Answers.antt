use Rattle.std.proofs.Common.{rules, ◌≡◌, ◌+◌, ◌∷◌, ◌++◌, [], true, ℤ, pos, to_z, of_z, FitsSigned, Some, None, Err, drop, slice_get, nat_eq, sym, ap, ◌∙◌, subst, List}
use Rattle.std.specs.Prelude.{◌*ℤ◌}
use Rattle.std.specs.Int.{w128}
use Rattle.std.proofs.lemmas.Int.{to_z-of_z}
use Rattle.std.specs.declared.vec.Vec.{Vec}
use Rattle.std.specs.declared.alloc.Global.{Global}
use Rattle.exact_numbers.proofs.Casts.{fits}
use Rattle.exact_numbers.specs.Limit.{checked, InLimit}
use Rattle.exact_numbers.proofs.Limits.{formed_by, checked_none}
use Rattle.logic_meaning.specs.Form.{Term}
use Rattle.logic_meaning.specs.Shape.{is_in}
use Rattle.linear_forms.specs.Values.{point_of}
use Rattle.linear_forms.specs.Linear.{terms_of}
use Rattle.linear_forms.proofs.Peeling.{terms_of-push}
use Rattle.logic_meaning.specs.declared.form.VarId.{VarId}
use Rattle.test_points.specs.declared.error.PointError.TheVariants as error
use Rattle.nnf_trees.specs.Placed.{Fails}
use Rattle.reference_engine.specs.Told.{numbers}
use Rattle.reference_engine.specs.Put.{around, kept_within}
use Rattle.reference_engine.proofs.Parting.{IsPartedBefore, in_reverse, next_term, part_kept, part_out, part_refused, same_below, refused}
use Rattle.reference_engine.proofs.forms.parted.Goals as goal
use Rattle.reference_engine.proofs.forms.parted.Goals.{then-stands_in+in-Some-product+in_ok-map_err, else-stands_in+in_ok-map_err-2}

pub returns-in_default-product-clause-parted : goal.returns-in_default-product-clause-parted
returns-in_default-product-clause-parted c =
    let v = c.args.at.now in
    let p = point_of v in
    let ns = around c.args.names.now in
    let ts = c.args.form.now.terms in
    let term : Term = record { times = c.in-Some.times; name = c.in-Some.name.number } in
    let here : slice_get ts c.loop-place.place ≡ Some term = search rules in
    let before = subst (IsPartedBefore p ns ts (terms_of c.loop-place.kept.items) (terms_of c.loop-place.out.items)) (next_term ts c.loop-place.place term here) c.loop-place.invariant in
    let d = c.denominator-denominator.result in
    let fd : FitsSigned w128 d = search rules in
    let ft : FitsSigned w128 c.in-Some.times = search rules in
    let h = simp to_z-of_z at c.product.ensures.rule in
    let below : d ≡ pos p.below = same_below v d c.denominator-denominator.ensures.value c.denominator-denominator.ensures.positive in
    let none : c.product.result ≡ None = search rules in
    let past = checked_none (pos p.below *ℤ c.in-Some.times) (ap (λ z. checked (z *ℤ c.in-Some.times)) (sym below) ∙ sym h ∙ none) in
    let stands : is_in nat_eq term.name ns ≡ true = in_reverse term.name (numbers c.args.names.now) ∙ sym c.stands_in.ensures ∙ c.if-stands_in.true in
    part_refused p ns ts (terms_of c.loop-place.kept.items) (terms_of c.loop-place.out.items) (drop (c.loop-place.place + 1) ts) term before stands past

pub returns-in_err-map_err-clause-parted : goal.returns-in_err-map_err-clause-parted
returns-in_err-map_err-clause-parted c =
    let is : c.in_err-map_err.field-0.0 ≡ error.Memory = search rules in
    let e : c.from_residual.result ≡ Err c.in_err-map_err.field-0.0 = search rules in
    refused c.from_residual.result c.in_err-map_err.field-0.0 _ _ e (subst (λ x. Fails x (kept_within (point_of c.args.at.now) (around c.args.names.now) c.args.form.now.terms)) (sym is) tt)

-- the number kept with its name
one_kept : (xs ys : List (VarId × ℤ)) (v : VarId) (m n : ℤ) → ys ≡ xs ++ (v, m) ∷ [] → m ≡ n → terms_of ys ≡ terms_of xs ++ record { times = n; name = v.number } ∷ []
one_kept xs ys v m n e h = ap terms_of e ∙ terms_of-push xs (v, m) ∙ ap (λ (z : ℤ). terms_of xs ++ record { times = z; name = v.number } ∷ []) h

pub loop-place-preserved : goal.loop-place-preserved
loop-place-preserved c =
    let v = c.args.at.now in
    let p = point_of v in
    let ns = around c.args.names.now in
    let ts = c.args.form.now.terms in
    let i = c.loop-place.place in
    let kept = c.loop-place.kept.items in
    let out = c.loop-place.out.items in
    let name = c.in-Some.name in
    let times = c.in-Some.times in
    let term : Term = record { times = times; name = name.number } in
    let here : slice_get ts i ≡ Some term = search rules in
    let before : IsPartedBefore p ns ts (terms_of kept) (terms_of out) (term ∷ drop (i + 1) ts) = subst (IsPartedBefore p ns ts (terms_of kept) (terms_of out)) (next_term ts i term here) c.loop-place.invariant in
    let d = c.denominator-denominator.result in
    let below : d ≡ pos p.below = same_below v d c.denominator-denominator.ensures.value c.denominator-denominator.ensures.positive in
    let fd : FitsSigned w128 d = search rules in
    let ft : FitsSigned w128 times = search rules in
    let found = in_reverse term.name (numbers c.args.names.now) ∙ sym c.stands_in.ensures in
    elim c.if-stands_in.branch [
      | then-stands_in+in-Some-product+in_ok-map_err w ↦
          let n = w.in-Some-product.number in
          let rule : Some n ≡ checked (d *ℤ times) = simp to_z-of_z at w.in-Some-product.ensures.rule in
          let f = formed_by (d *ℤ times) n rule in
          let fn = fits n f.within in
          let pushed : w.push.new.self.items ≡ kept ++ (name, to_z w128 (of_z w128 n)) ∷ [] = search rules in
          let same : n ≡ pos p.below *ℤ times = f.same ∙ ap (λ z. z *ℤ times) below in
          let more = one_kept kept w.push.new.self.items name (to_z w128 (of_z w128 n)) (pos p.below *ℤ times) pushed (to_z-of_z w128 n fn ∙ same) in
          subst (λ (v : Vec (VarId × ℤ) Global). IsPartedBefore p ns ts (terms_of v.items) (terms_of c.if-stands_in.out.items) (drop (i + 1) ts)) (sym w.kept-is)
          (subst (λ (v : Vec (VarId × ℤ) Global). IsPartedBefore p ns ts (terms_of w.push.new.self.items) (terms_of v.items) (drop (i + 1) ts)) (sym w.out-is)
          (part_kept p ns ts (terms_of kept) (terms_of w.push.new.self.items) (terms_of out) (drop (i + 1) ts) term before (found ∙ w.if-stands_in.true) (subst InLimit same f.within) more))
      | else-stands_in+in_ok-map_err-2 w ↦
          let pushed : w.push-else-stands_in.new.self.items ≡ out ++ (name, to_z w128 (of_z w128 times)) ∷ [] = search rules in
          let more = one_kept out w.push-else-stands_in.new.self.items name (to_z w128 (of_z w128 times)) times pushed (to_z-of_z w128 times ft) in
          subst (λ (v : Vec (VarId × ℤ) Global). IsPartedBefore p ns ts (terms_of v.items) (terms_of c.if-stands_in.out.items) (drop (i + 1) ts)) (sym w.kept-is)
          (subst (λ (v : Vec (VarId × ℤ) Global). IsPartedBefore p ns ts (terms_of kept) (terms_of v.items) (drop (i + 1) ts)) (sym w.out-is)
          (part_out p ns ts (terms_of kept) (terms_of out) (terms_of w.push-else-stands_in.new.self.items) (drop (i + 1) ts) term before (found ∙ w.if-stands_in.false) more))
    ]
