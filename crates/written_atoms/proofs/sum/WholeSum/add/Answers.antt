use Rattle.std.proofs.Common.{◌≡◌, ℤ, pos, Some, ap, sym, ◌∙◌, subst, arith}
use Rattle.std.specs.Prelude.{◌+ℤ◌, ◌*ℤ◌, slice_get}
use Rattle.std.proofs.lemmas.Int.{ints, to_z-of_z}
use Rattle.exact_numbers.specs.Limit.{InLimit}
use Rattle.exact_numbers.proofs.Casts.{fits}
use Rattle.exact_numbers.proofs.Ring.{mul_zero}
use Rattle.logic_meaning.specs.Combining.{AddWithin}
use Rattle.logic_meaning.specs.Form.{Term, coefficient, multiple}
use Rattle.linear_forms.proofs.Determined.{coefficient_of_term}
use Rattle.written_atoms.specs.Entries.{coefficient_at}
use Rattle.written_atoms.proofs.EntryTerms.{added_more, take_whole, none_before, within_at}
use Rattle.written_atoms.proofs.sum.WholeSum.add.Goals as goal

pub returns-in_default : goal.returns-in_default
unfolding coefficient
returns-in_default c =
    let s = c.args.self.now in
    let f = c.args.form.now in
    let l = c.constant_part.ensures.linear in
    let ff = c.ranges.factor in
    let fs = fits s.constant s.constant_within in
    let fp = fits c.constant_part.result (subst (λ (z : ℤ). InLimit z) (sym c.constant_part.ensures.value) l.constant_within) in
    let fc = fits c.with_product-constant.result c.with_product-constant.ensures.within in
    let e = simp to_z-of_z at c.with_product-constant.ensures.value in
    record {
      coefficients = λ x. let h = simp to_z-of_z at (c.loop-place.invariant.coefficients x) in h ∙ ap (λ ts. coefficient_at s.coefficients.entries x +ℤ c.args.factor *ℤ multiple x ts) (take_whole f.terms c.loop-place.place (sym c.in_default.ensures.value));
      constant = simp to_z-of_z (e ∙ ap (λ z. s.constant +ℤ c.args.factor *ℤ z) c.constant_part.ensures.value);
    }

pub with_product-coefficient-requires : goal.with_product-coefficient-requires
with_product-coefficient-requires c =
    let s = c.args.self.now in
    let f = c.args.form.now in
    let i = c.loop-place.place in
    let v = c.in-Some.name.number in let k = c.in-Some.times in
    let l = c.constant_part.ensures.linear in
    let t : Term = record { times = k; name = v } in
    let at : slice_get f.terms i ≡ Some t = sym c.in-Some.ensures.value in
    let fk = fits k (within_at f.terms i t l.within at) in
    let ff = c.ranges.factor in
    let fb = fits c.coefficient.result c.coefficient.ensures.within in
    let h = simp to_z-of_z at (c.loop-place.invariant.coefficients v) in
    let e : c.coefficient.result ≡ coefficient_at s.coefficients.entries v = before _ _ _ _ (c.coefficient.ensures.value ∙ h) (none_before f.terms i t l.sorted.rising at) in
    let w = subst (λ (z : ℤ). AddWithin (coefficient_at s.coefficients.entries v) (c.args.factor *ℤ z)) (coefficient_of_term f i t l at) (c.requires.places v) in
    simp to_z-of_z (subst (λ (z : ℤ). AddWithin z (c.args.factor *ℤ k)) (sym e) w)
  where
    before : (r old m k : ℤ) → r ≡ old +ℤ k *ℤ m → m ≡ pos 0 → r ≡ old
    before r old m k e z = let n : k *ℤ m ≡ pos 0 = ap (λ y. k *ℤ y) z ∙ mul_zero k in last r old (k *ℤ m) e n
      where
        last : (r old p : ℤ) → r ≡ old +ℤ p → p ≡ pos 0 → r ≡ old
        last r old p e n = omega (arith, ints)

pub loop-place-preserved : goal.loop-place-preserved
loop-place-preserved c =
    let s = c.args.self.now in
    let f = c.args.form.now in
    let i = c.loop-place.place in
    let v = c.in-Some.name.number in let k = c.in-Some.times in
    let l = c.constant_part.ensures.linear in
    let t : Term = record { times = k; name = v } in
    let at : slice_get f.terms i ≡ Some t = sym c.in-Some.ensures.value in
    let fk = fits k (within_at f.terms i t l.within at) in
    let ff = c.ranges.factor in
    let fb = fits c.coefficient.result c.coefficient.ensures.within in
    let n = c.with_product-coefficient.result in
    let fn = fits n c.with_product-coefficient.ensures.within in
    let e : n ≡ c.coefficient.result +ℤ c.args.factor *ℤ k = simp to_z-of_z at c.with_product-coefficient.ensures.value in
    let h = simp to_z-of_z at c.loop-place.invariant.coefficients in
    let p = simp to_z-of_z at c.in_ok-put.ensures.put in
    record {
      coefficients = simp to_z-of_z (added_more s.coefficients.entries c.loop-place.self.coefficients.entries c.put.new.self.coefficients.entries f.terms i v c.args.factor k n p (e ∙ ap (λ z. z +ℤ c.args.factor *ℤ k) c.coefficient.ensures.value) at h);
      constant = c.in_ok-put.ensures.constant ∙ c.loop-place.invariant.constant;
    }
