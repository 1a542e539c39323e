-- What a form modulo a number keeps. All numbers are unlimited.
use Rattle.std.proofs.Common.{◌≡◌, ℕ, List, [], ◌∷◌, ap, sym, ◌∙◌, subst, refl, arith, inl, inr}
use Rattle.std.proofs.Math.IntN.{ℤ, pos, ◌+ℤ◌, ◌-ℤ◌, ◌*ℤ◌}
use Rattle.std.specs.Prelude.{◌<ℤ◌, ◌≤ℤ◌}
use Rattle.std.proofs.lemmas.Bool.{cases_eq}
use Rattle.std.proofs.lemmas.Int.{ints}
use Rattle.exact_numbers.specs.Divides.{Divides, residue_of}
use Rattle.exact_numbers.specs.Division.{DividesAll, IsResidue}
use Rattle.exact_numbers.proofs.Ring.{sub_mul}
use Rattle.exact_numbers.proofs.Divisibility.{divides_along, divides_add, divides_mul, divides_zero, divides_trans}
use Rattle.exact_numbers.proofs.Floor.{residue_is, residue_unique, residue_not_negative, residue_below, divides_from_residue}
use Rattle.logic_meaning.specs.Point.{Point}
use Rattle.logic_meaning.specs.Form.{Form, Term, total, multiple, value}
use Rattle.logic_meaning.specs.Sorted.{AllAbove, IsRising, AllNonzero, IsSorted}
use Rattle.formula_laws.proofs.Sorted.{here, elsewhere, multiple_above}
use Rattle.logic_meaning.specs.Terms.{coefficients}
use Rattle.logic_meaning.specs.Reduction.{residues, residue_form, AllReduced}
use Rattle.linear_forms.proofs.Reduced.{residues_other, by_residue, above_residues}

module _ (m : ℤ) (p : pos 0 <ℤ m) where
  -- a number differs from its residue by a multiple
  pub residue_apart : (n : ℤ) → Divides m (n -ℤ residue_of n m)
  residue_apart n = (residue_is n m p).same

  -- a residue is its own residue
  pub residue_stays : (n : ℤ) → pos 0 ≤ℤ n → n <ℤ m → residue_of n m ≡ n
  residue_stays n a b =
      let e : pos 0 ≡ n -ℤ n = omega (arith, ints) in
      let r : IsResidue n m n = record { not_negative = a; below = b; same = divides_along e (divides_zero m) } in
      residue_unique (residue_is n m p) r

  term_apart : (t k r s u : ℤ) → Divides m (t -ℤ r) → Divides m (s -ℤ u) → Divides m ((t *ℤ k +ℤ s) -ℤ (r *ℤ k +ℤ u))
  term_apart t k r s u h g =
      let e : (t -ℤ r) *ℤ k +ℤ (s -ℤ u) ≡ (t *ℤ k +ℤ s) -ℤ (r *ℤ k +ℤ u) = let x = sub_mul t r k in omega (arith, ints) in
      divides_along e (divides_add (divides_mul k h) g)

  term_gone : (t k s u : ℤ) → Divides m t → Divides m (s -ℤ u) → Divides m ((t *ℤ k +ℤ s) -ℤ u)
  term_gone t k s u h g =
      let e : t *ℤ k +ℤ (s -ℤ u) ≡ (t *ℤ k +ℤ s) -ℤ u = omega (arith, ints) in
      divides_along e (divides_add (divides_mul k h) g)

  -- the sums differ by a multiple
  pub total_residues : (ts : List Term) (at : ℕ → ℤ) → Divides m (total ts at -ℤ total (residues m ts) at)
  total_residues [] at = let e : pos 0 ≡ pos 0 -ℤ pos 0 = omega (arith, ints) in divides_along e (divides_zero m)
  total_residues (t ∷ ts) at =
      let h = total_residues ts at in
      by_residue m (λ us. Divides m (total (t ∷ ts) at -ℤ total us at)) t ts
      (λ z. term_gone t.times (at t.name) (total ts at) (total (residues m ts) at) (divides_from_residue p z) h)
      (λ n. term_apart t.times (at t.name) (residue_of t.times m) (total ts at) (total (residues m ts) at) (residue_apart t.times) h)

  pub value_residue : (f : Form) (q : Point ℕ) → Divides m (value f q -ℤ value (residue_form f m) q)
  unfolding value residue_form
  value_residue f q =
      let c = f.constant in let r = residue_of f.constant m in let w = pos q.below in
      let s = total f.terms q.at in let u = total (residues m f.terms) q.at in
      let e : (c *ℤ w +ℤ s) -ℤ (r *ℤ w +ℤ u) ≡ (s +ℤ c *ℤ w) -ℤ (u +ℤ r *ℤ w) = omega (arith, ints) in
      divides_along e (term_apart c w r s u (residue_apart c) (total_residues f.terms q.at))

  -- the coefficient of a name is the residue of its coefficient
  pub multiple_residues : (x : ℕ) (ts : List Term) → IsRising ts → multiple x (residues m ts) ≡ residue_of (multiple x ts) m
  multiple_residues x [] r = sym (residue_stays (pos 0) (omega (arith, ints)) p)
  multiple_residues x (t ∷ ts) r =
      let h = multiple_residues x ts r.1 in
      elim (cases_eq t.name x) [
        | inl e ↦
            let a : AllAbove x ts = subst (λ (k : ℕ). AllAbove k ts) e r.0 in
            let b = above_residues m x ts a in
            let v = here x t ts e a in
            by_residue m (λ us. multiple x us ≡ residue_of (multiple x (t ∷ ts)) m) t ts
            (λ z. multiple_above x (residues m ts) b ∙ sym z ∙ ap (λ k. residue_of k m) (sym v))
            (λ n. here x (record { times = residue_of t.times m; name = t.name }) (residues m ts) e b ∙ ap (λ k. residue_of k m) (sym v))
        | inr n ↦
            let v = elsewhere x t ts n in
            by_residue m (λ us. multiple x us ≡ residue_of (multiple x (t ∷ ts)) m) t ts
            (λ z. h ∙ ap (λ k. residue_of k m) (sym v))
            (λ k. elsewhere x (record { times = residue_of t.times m; name = t.name }) (residues m ts) n ∙ h ∙ ap (λ k. residue_of k m) (sym v))
      ]

  pub reduced_residues : (ts : List Term) → AllReduced m (coefficients (residues m ts))
  reduced_residues [] = tt
  reduced_residues (t ∷ ts) =
      let h = reduced_residues ts in
      by_residue m (λ us. AllReduced m (coefficients us)) t ts (λ z. h) (λ n. ((residue_not_negative t.times m, residue_below t.times m p), h))

  -- what is reduced stays
  pub residues_stay : (ts : List Term) → AllNonzero ts → AllReduced m (coefficients ts) → residues m ts ≡ ts
  residues_stay [] n h = refl
  residues_stay (t ∷ ts) n h =
      let e = residue_stays t.times h.0.0 h.0.1 in
      let r = residues_stay ts n.1 h.1 in
      residues_other m t ts (λ z. n.0 (sym e ∙ z)) ∙ λ i. record { times = e i; name = t.name } ∷ r i

  pub residue_form_stays : (f : Form) → IsSorted f → AllReduced m (f.constant ∷ coefficients f.terms) → residue_form f m ≡ f
  unfolding residue_form
  residue_form_stays f s h =
      let t = residues_stay f.terms s.nonzero h.1 in
      let c = residue_stays f.constant h.0.0 h.0.1 in
      λ i. record { terms = t i; constant = c i }

  -- a common divisor of the modulus and the residues divides the numbers
  pub divides_before : (e : ℤ) (ts : List Term) → Divides e m → DividesAll e (coefficients (residues m ts)) → DividesAll e (coefficients ts)
  divides_before e [] d = λ h. tt
  divides_before e (t ∷ ts) d =
      by_residue m (λ us. DividesAll e (coefficients us) → DividesAll e (coefficients (t ∷ ts))) t ts
      (λ z h. (divides_trans d (divides_from_residue p z), divides_before e ts d h))
      (λ n h. (divides_number t.times h.0, divides_before e ts d h.1))
    where
      divides_number : (n : ℤ) → Divides e (residue_of n m) → Divides e n
      divides_number n h =
          let s : (n -ℤ residue_of n m) +ℤ residue_of n m ≡ n = omega (arith, ints) in
          divides_along s (divides_add (divides_trans d (residue_apart n)) h)
