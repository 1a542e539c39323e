-- A period of an atom of the integers is one of its normal form.
use Rattle.std.proofs.Common.{◌≡◌, ℕ, Bool, true, false, not, List, [], ◌∷◌, refl, sym, ap, ◌∙◌, subst, arith, if◌then◌else◌, nat_eq, eqb-true}
use Rattle.std.proofs.Math.IntN.{ℤ, pos, negsuc, ◌-ℤ◌, ◌*ℤ◌}
use Rattle.std.specs.Prelude.{◌<ℤ◌, int_div, unsigned_abs}
use Rattle.std.specs.Ordering.{int_cmp, int_eq, is_gt}
use Rattle.std.proofs.lemmas.Int.{ints}
use Rattle.exact_numbers.specs.Divides.{Divides, content_of, floor_of, residue_of}
use Rattle.exact_numbers.proofs.Ring.{mul_assoc, sub_mul}
use Rattle.exact_numbers.proofs.Divisibility.{divides_along, divides_sub, divides_mul, divides_mul_left, cancel_divides}
use Rattle.exact_numbers.proofs.LeastMultiple.{exact_div}
use Rattle.exact_numbers.proofs.Order.{factor_positive}
use Rattle.logic_meaning.specs.Context.{Context, Fields, Integers}
use Rattle.logic_meaning.specs.Formula.{Yes, No, One}
use Rattle.logic_meaning.specs.Form.{Form, Term, coefficient, scale}
use Rattle.logic_meaning.specs.Sorted.{IsSorted, gathered}
use Rattle.logic_meaning.specs.Atom.{Atom, Compare, Congruent, Relation, Equals, Differs, Below, AtMost, Above, AtLeast}
use Rattle.formula_laws.specs.TheoryAtoms.{AtomIn}
use Rattle.logic_meaning.specs.Every.{Every}
use Rattle.formula_laws.proofs.Coefficients.{coefficient_scale}
use Rattle.formula_laws.proofs.Gathered.{coefficient_gathered, gathered_sorted}
use Rattle.formula_laws.proofs.Sorted.{scale_sorted}
use Rattle.logic_meaning.specs.Terms.{coefficients}
use Rattle.logic_meaning.specs.Reduction.{quotient, quotients, residue_form}
use Rattle.normal_atoms.proofs.FromLinearForms.{residue_sorted, multiple_quotients, sorted_quotient, residue_apart, multiple_residues}
use Rattle.elimination_theory.specs.IntegersTheorems.{IsPeriodOf}
use Rattle.elimination_theory.specs.Samples.{KeepsPeriods}
use Rattle.logic_meaning.specs.NormalForm.{constant_tree, holds, turned, facing, bound, rounded, first, smaller, congruence, coprime_congruence, reduced_congruence, congruent, normal_atom, compared_over_integers}
use Rattle.normal_atoms.proofs.Congruences.{IsCommonDivisor, modulus_divisor}

module _ (x : ℕ) (q : ℤ) where
  -- the modulus divides the change of the form by the period
  IsPeriod : ℤ → Form → Type 0
  IsPeriod m f = Divides m (coefficient x f *ℤ q)

  constant_period : (b : Bool) → Every (IsPeriodOf x q) (constant_tree b)
  constant_period true = tt
  constant_period false = tt

  rounded_period : (r : Relation) (g : ℤ) (v : List Term) (c : ℤ) → Every (IsPeriodOf x q) (rounded r g v c)
  rounded_period Equals g v c = go (int_eq (residue_of c g) (pos 0))
    where
      go : (t : Bool) → Every (IsPeriodOf x q) (if t then bound Equals v (floor_of c g) else No)
      go true = tt
      go false = tt
  rounded_period Differs g v c = go (int_eq (residue_of c g) (pos 0))
    where
      go : (t : Bool) → Every (IsPeriodOf x q) (if t then bound Differs v (floor_of c g) else Yes)
      go true = tt
      go false = tt
  rounded_period AtMost g v c = tt
  rounded_period Above g v c = tt
  rounded_period Below g v c = tt
  rounded_period AtLeast g v c = tt

  compared_period : (r : Relation) (ts : List Term) (c : ℤ) → Every (IsPeriodOf x q) (compared_over_integers r ts c)
  compared_period r [] c = constant_period (holds r (int_cmp c (pos 0)))
  compared_period r (t ∷ ts) c =
      let g = content_of (coefficients (t ∷ ts)) in
      rounded_period (facing t.times r) g (quotients (turned t.times g) (t ∷ ts)) (turned t.times c)

  congruence_period : (b : Bool) (n : ℕ) (f : Form) → IsPeriod (pos n) f → IsPeriodOf x q (congruence b n f)
  unfolding IsPeriod coefficient
  congruence_period true n f h = h
  congruence_period false n f h = go (nat_eq n 2) refl
    where
      go : (t : Bool) → nat_eq n 2 ≡ t → IsPeriodOf x q (if t then Congruent true 2 (record { terms = f.terms; constant = pos 1 -ℤ residue_of f.constant (pos 2) }) else Congruent false n f)
      go true e = subst (λ (k : ℕ). Divides (pos k) (coefficient x f *ℤ q)) (eqb-true n 2 e) h
      go false e = h

  residue_period : (m : ℤ) (f : Form) → pos 0 <ℤ m → IsSorted f → IsPeriod m f → IsPeriod m (residue_form f m)
  unfolding IsPeriod coefficient residue_form
  residue_period m f p s h =
      let c = coefficient x f in
      let apart : Divides m ((c -ℤ residue_of c m) *ℤ q) = divides_mul q (residue_apart m p c) in
      let e : c *ℤ q -ℤ (c -ℤ residue_of c m) *ℤ q ≡ residue_of c m *ℤ q = let d = sub_mul c (residue_of c m) q in omega (arith, ints) in
      divides_along (e ∙ sym (ap (λ z. z *ℤ q) (multiple_residues m p x f.terms s.rising))) (divides_sub h apart)

  negative_period : (m : ℤ) (f : Form) → IsPeriod m f → IsPeriod m (scale (negsuc 0) f)
  unfolding IsPeriod
  negative_period m f h = divides_along (sym (mul_assoc (negsuc 0) (coefficient x f) q) ∙ sym (ap (λ z. z *ℤ q) (coefficient_scale x (negsuc 0) f))) (divides_mul_left (negsuc 0) h)

  smaller_period : (m : ℤ) (f : Form) → pos 0 <ℤ m → IsSorted f → IsPeriod m f → IsPeriod m (smaller m f)
  smaller_period m f p s h = go (is_gt (int_cmp (first f.terms) (m -ℤ first f.terms)))
    where
      go : (t : Bool) → IsPeriod m (if t then residue_form (scale (negsuc 0) f) m else f)
      go true =
          residue_period m (scale (negsuc 0) f) p (scale_sorted (negsuc 0) f (λ (z : negsuc 0 ≡ pos 0). omega (arith, ints)) s) (negative_period m f h)
      go false = h

  coprime_period : (b : Bool) (m : ℤ) (f : Form) → pos 0 <ℤ m → IsSorted f → IsPeriod m f → Every (IsPeriodOf x q) (coprime_congruence b m f)
  coprime_period b m f p s h = go (int_eq m (pos 1))
    where
      go : (t : Bool) → Every (IsPeriodOf x q) (if t then constant_tree b else One (congruence b (unsigned_abs m) (smaller m f)))
      go true = constant_period b
      go false = congruence_period b (unsigned_abs m) (smaller m f) (subst (λ (k : ℤ). IsPeriod k (smaller m f)) (omega (arith, ints)) (smaller_period m f p s h))

  divided_period : (m g : ℤ) (f : Form) → IsCommonDivisor g m f → IsPeriod m f → IsPeriod (int_div m g) (quotient f g)
  unfolding IsPeriod coefficient quotient
  divided_period m g f c h =
      let n : ¬ (g ≡ pos 0) = λ e. let k = c.positive in absurd (omega (arith, ints)) in
      cancel_divides g n (subst (λ (k : ℤ). Divides k (g *ℤ (coefficient x (quotient f g) *ℤ q))) (sym (exact_div g m n c.modulus))
      (divides_along (sym (ap (λ z. z *ℤ q) (multiple_quotients g n x f.terms c.terms)) ∙ mul_assoc g (coefficient x (quotient f g)) q) h))

  reduced_period : (b : Bool) (m g : ℤ) (f : Form) → pos 0 <ℤ m → IsSorted f → IsCommonDivisor g m f → IsPeriod m f → Every (IsPeriodOf x q) (reduced_congruence b m g f)
  reduced_period b m g f p s c h = go (int_eq (residue_of f.constant g) (pos 0))
    where
      go : (t : Bool) → Every (IsPeriodOf x q) (if t then coprime_congruence b (int_div m g) (quotient f g) else constant_tree (not b))
      go true =
          let n : ¬ (g ≡ pos 0) = λ e. let k = c.positive in absurd (omega (arith, ints)) in
          let e = exact_div g m n c.modulus in
          let k : pos 0 <ℤ (g *ℤ int_div m g) = omega (arith, ints, p) in
          coprime_period b (int_div m g) (quotient f g) (factor_positive c.positive k) (sorted_quotient g n f c.terms s) (divided_period m g f c h)
      go false = constant_period (not b)

  congruent_period : (b : Bool) (m : ℤ) (f : Form) → pos 0 <ℤ m → IsSorted f → IsPeriod m f → Every (IsPeriodOf x q) (congruent b m f)
  congruent_period b m f p s h =
      let r = residue_form f m in
      reduced_period b m (content_of (m ∷ coefficients r.terms)) r p (residue_sorted m f s) (modulus_divisor m r p) (residue_period m f p s h)

pub normal_keeps_periods : (c : Context) → KeepsPeriods c (normal_atom c)
unfolding IsPeriod normal_atom
normal_keeps_periods Fields = tt
normal_keeps_periods Integers = λ a x q i h. go a x q i h
  where
    go : (a : Atom) (x : ℕ) (q : ℤ) → AtomIn Integers a → IsPeriodOf x q a → Every (IsPeriodOf x q) (normal_atom Integers a)
    go (Compare r f) x q i h = compared_period x q r (gathered f).terms (gathered f).constant
    go (Congruent b m f) x q i h =
        congruent_period x q b (pos m) (gathered f) (omega (arith, ints)) (gathered_sorted f) (subst (λ (z : ℤ). Divides (pos m) (z *ℤ q)) (sym (coefficient_gathered x f)) h)
