use Rattle.std.proofs.Common.{◌≡◌, ℤ, List, Some, sym, subst, refl}
use Rattle.std.specs.Prelude.{◌*ℤ◌, slice_get}
use Rattle.std.proofs.lemmas.Int.{to_z-of_z}
use Rattle.exact_numbers.specs.Limit.{InLimit}
use Rattle.exact_numbers.proofs.Casts.{fits}
use Rattle.logic_meaning.specs.Combining.{AddWithin}
use Rattle.logic_meaning.specs.Form.{Term, coefficient, multiple}
use Rattle.written_atoms.specs.Entries.{coefficient_at}
use Rattle.written_atoms.proofs.EntryTerms.{within_more, take_whole, within_at}
use Rattle.written_atoms.proofs.sum.WholeSum.may_take.Goals as goal

pub returns-in_default-clause-within : goal.returns-in_default-clause-within
unfolding coefficient
returns-in_default-clause-within c _ =
    let s = c.args.self.now in
    let f = c.args.form.now in
    let l = c.constant_part.ensures.linear in
    let ff = c.ranges.factor in
    let fs = fits s.constant s.constant_within in
    let fp = fits c.constant_part.result (subst (λ (z : ℤ). InLimit z) (sym c.constant_part.ensures.value) l.constant_within) in
    let a = simp to_z-of_z at (c.if-not-may_be_added.ensures refl) in
    record {
      places = λ x. let h = simp to_z-of_z at (c.loop-place.invariant x) in subst (λ (ts : List Term). AddWithin (coefficient_at s.coefficients.entries x) (c.args.factor *ℤ multiple x ts)) (take_whole f.terms c.loop-place.place (sym c.in_default.ensures.value)) h;
      constants = subst (λ (z : ℤ). AddWithin s.constant (c.args.factor *ℤ z)) c.constant_part.ensures.value a;
    }

pub loop-place-preserved : goal.loop-place-preserved
loop-place-preserved c =
    let s = c.args.self.now in
    let f = c.args.form.now in
    let i = c.loop-place.place in
    let v = c.in-Some.name.number in let k = c.in-Some.times in
    let l = c.constant_part.ensures.linear in
    let t : Term = record { times = k; name = v } in
    let at : slice_get f.terms i ≡ Some t = sym c.in-Some.ensures.value in
    let fk = fits k (within_at f.terms i t l.within at) in
    let ff = c.ranges.factor in
    let fb = fits c.coefficient.result c.coefficient.ensures.within in
    let a = simp to_z-of_z at (c.if-not-may_be_added-2.ensures refl) in
    let w = subst (λ (z : ℤ). AddWithin z (c.args.factor *ℤ k)) c.coefficient.ensures.value a in
    let h = simp to_z-of_z at c.loop-place.invariant in
    simp to_z-of_z (within_more s.coefficients.entries c.args.factor f.terms i v k l.sorted.rising at w h)
