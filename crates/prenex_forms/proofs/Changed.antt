-- Terms whose names are changed one after another.
use Rattle.std.proofs.Common.{◌≡◌, ◌≤◌, ◌+◌, ℕ, zero, suc, Bool, List, [], ◌∷◌, Some, None, take, length, refl, sym, ap, ap₂, ◌∙◌, subst, arith, nat_eq, inl, inr, if◌then◌else◌}
use Rattle.std.proofs.Math.IntN.{ℤ, pos, ◌+ℤ◌}
use Rattle.std.specs.Prelude.{slice_get}
use Rattle.std.proofs.lemmas.Int.{ints}
use Rattle.std.proofs.lemmas.Bool.{cases_eq, ne_eqb, eq-eqb, cond-true, cond-false}
use Rattle.exact_numbers.proofs.Order.{by_zero}
use Rattle.logic_meaning.specs.Context.{Context, Fields, Integers}
use Rattle.logic_meaning.specs.Form.{Form, Term, multiple}
use Rattle.logic_meaning.specs.Sorted.{AllAbove, IsRising, AllNonzero, gathered}
use Rattle.logic_meaning.specs.Some.{Among}
use Rattle.logic_meaning.specs.Atom.{Atom, Compare, Congruent, form_of}
use Rattle.logic_meaning.specs.Formula.{One}
use Rattle.logic_meaning.specs.Tree.{Tree}
use Rattle.exact_numbers.specs.Limit.{InLimit, PastLimit}
use Rattle.linear_forms.specs.Combinations.{IsLinear}
use Rattle.logic_meaning.specs.NormalForm.{normal_atom, ConstantPasses, compared_in_fields, compared_over_integers, congruent}
use Rattle.logic_meaning.specs.Renaming.{terms_named, atom_named}
use Rattle.shape_theory.proofs.NamedAtoms.{names_of, image_among, named_multiple}
use Rattle.written_atoms.specs.Entries.{coefficient_at}
use Rattle.written_atoms.proofs.EntryTerms.{at_name, multiple_take, none_before}

module _ (now : ℕ → ℕ) where
  -- the first terms, changed
  pub take_named : (i : ℕ) (ts : List Term) → take i (terms_named now ts) ≡ terms_named now (take i ts)
  take_named zero ts = refl
  take_named (suc i) [] = refl
  take_named (suc i) (t ∷ ts) = ap (λ us. record { times = t.times; name = now t.name } ∷ us) (take_named i ts)

  pub at_named : (i : ℕ) (ts : List Term) (t : Term) → slice_get ts i ≡ Some t → slice_get (terms_named now ts) i ≡ Some (record { times = t.times; name = now t.name })
  at_named i [] t e = absurd (cc)
  at_named zero (s ∷ ts) t e = let k : s ≡ t = cc in ap (λ (u : Term). Some (record { times = u.times; name = now u.name })) k
  at_named (suc i) (s ∷ ts) t e = at_named i ts t e

  pub end_named : (i : ℕ) (ts : List Term) → slice_get ts i ≡ None → slice_get (terms_named now ts) i ≡ None
  end_named zero [] e = refl
  end_named (suc i) [] e = refl
  end_named zero (t ∷ ts) e = absurd (cc)
  end_named (suc i) (t ∷ ts) e = end_named i ts e

  pub whole_named : (i : ℕ) (ts : List Term) → length ts ≤ i → take i (terms_named now ts) ≡ terms_named now ts
  whole_named zero [] h = refl
  whole_named (suc i) [] h = refl
  whole_named zero (t ∷ ts) h = absurd (omega arith)
  whole_named (suc i) (t ∷ ts) h = ap (λ us. record { times = t.times; name = now t.name } ∷ us) (whole_named i ts (omega arith))

  take_next : {X : Type 0} (i : ℕ) (x : X) (xs : List X) → take (suc i + 1) (x ∷ xs) ≡ x ∷ take (i + 1) xs
  take_next i x xs = let e : suc i + 1 ≡ suc (i + 1) = omega arith in ap (λ n. take n (x ∷ xs)) e

  -- a term more whose name stays
  pub one_stays : (i : ℕ) (ts : List Term) (t : Term) → slice_get ts i ≡ Some t → now t.name ≡ t.name → terms_named now (take i ts) ≡ take i ts → terms_named now (take (i + 1) ts) ≡ take (i + 1) ts
  one_stays i [] t e n h = absurd (cc)
  one_stays zero (s ∷ ts) t e n h = let k : s ≡ t = cc in ap (λ (m : ℕ). record { times = s.times; name = m } ∷ []) (subst (λ (u : Term). now u.name ≡ u.name) (sym k) n)
  one_stays (suc i) (s ∷ ts) t e n h =
      let m : now s.name ≡ s.name = cc in
      let r : terms_named now (take i ts) ≡ take i ts = cc in
      ap (terms_named now) (take_next i s ts) ∙ ap₂ (λ (x : ℕ) us. record { times = s.times; name = x } ∷ us) m (one_stays i ts t e n r) ∙ sym (take_next i s ts)

  -- before a term its name now does not stand
  none_named : (ts : List Term) (i : ℕ) (t : Term) → IsRising ts → AllNonzero ts → ((y : ℕ) → ¬ (multiple y ts ≡ pos 0) → now y ≡ now t.name → y ≡ t.name) → slice_get ts i ≡ Some t →
      multiple (now t.name) (take i (terms_named now ts)) ≡ pos 0
  none_named ts i t r n one e =
      by_zero (multiple (now t.name) (take i (terms_named now ts))) (λ z. z) (λ z.
      let k = image_among now (now t.name) (take i ts) (λ m. z (ap (multiple (now t.name)) (take_named i ts) ∙ m)) in
      let s = one k.0 (named_multiple k.0 ts r n (among_take k.0 i ts k.1)) k.2 in
      absurd (named_multiple k.0 (take i ts) (rising_take i ts r) (nonzero_take i ts n) k.1 (ap (λ y. multiple y (take i ts)) s ∙ none_before ts i t r e)))
    where
      among_take : (z j : ℕ) (us : List Term) → Among (names_of (take j us)) z → Among (names_of us) z
      among_take z zero us m = absurd m
      among_take z (suc j) [] m = absurd m
      among_take z (suc j) (u ∷ us) (inl p) = inl p
      among_take z (suc j) (u ∷ us) (inr m) = inr (among_take z j us m)

      above_take : (x j : ℕ) (us : List Term) → AllAbove x us → AllAbove x (take j us)
      above_take x zero us a = tt
      above_take x (suc j) [] a = tt
      above_take x (suc j) (u ∷ us) a = (a.0, above_take x j us a.1)

      rising_take : (j : ℕ) (us : List Term) → IsRising us → IsRising (take j us)
      rising_take zero us a = tt
      rising_take (suc j) [] a = tt
      rising_take (suc j) (u ∷ us) a = (above_take u.name j us a.0, rising_take j us a.1)

      nonzero_take : (j : ℕ) (us : List Term) → AllNonzero us → AllNonzero (take j us)
      nonzero_take zero us a = tt
      nonzero_take (suc j) [] a = tt
      nonzero_take (suc j) (u ∷ us) a = (a.0, nonzero_take j us a.1)

  -- one term more is put
  pub put_more : (old new : List (ℕ × ℤ)) (ts : List Term) (i : ℕ) (t : Term) → IsRising ts → AllNonzero ts → ((y : ℕ) → ¬ (multiple y ts ≡ pos 0) → now y ≡ now t.name → y ≡ t.name) → slice_get ts i ≡ Some t →
      ((x : ℕ) → coefficient_at new x ≡ (if nat_eq (now t.name) x then t.times else coefficient_at old x)) → ((x : ℕ) → coefficient_at old x ≡ multiple x (take i (terms_named now ts))) →
      (x : ℕ) → coefficient_at new x ≡ multiple x (take (i + 1) (terms_named now ts))
  put_more old new ts i t r n one e u h x =
      let v = now t.name in
      let s : Term = record { times = t.times; name = v } in
      let m = multiple_take x i (terms_named now ts) s (at_named i ts t e) in
      elim (cases_eq v x) [
        | inl p ↦
            let z : multiple x (take i (terms_named now ts)) ≡ pos 0 = ap (λ y. multiple y (take i (terms_named now ts))) (sym p) ∙ none_named ts i t r n one e in
            let a : coefficient_at new x ≡ t.times = u x ∙ cond-true (nat_eq v x) t.times (coefficient_at old x) (eq-eqb v x p) in
            let b : at_name x s ≡ t.times = cond-true (nat_eq x v) t.times (pos 0) (eq-eqb x v (sym p)) in
            a ∙ together t.times (multiple x (take i (terms_named now ts))) (at_name x s) z b ∙ sym m
        | inr p ↦
            let a : coefficient_at new x ≡ coefficient_at old x = u x ∙ cond-false (nat_eq v x) t.times (coefficient_at old x) (ne_eqb v x p) in
            let b : at_name x s ≡ pos 0 = cond-false (nat_eq x v) t.times (pos 0) (ne_eqb x v (λ q. p (sym q))) in
            a ∙ h x ∙ nothing (multiple x (take i (terms_named now ts))) (at_name x s) b ∙ sym m
      ]
    where
      together : (k m a : ℤ) → m ≡ pos 0 → a ≡ k → k ≡ m +ℤ a
      together k m a e f = omega (arith, ints)

      nothing : (m a : ℤ) → a ≡ pos 0 → m ≡ m +ℤ a
      nothing m a e = omega (arith, ints)

pub at_among : (i : ℕ) (ts : List Term) (t : Term) → slice_get ts i ≡ Some t → Among (names_of ts) t.name
at_among i [] t e = absurd (cc)
at_among zero (s ∷ ts) t e = let k : s ≡ t = cc in inl (ap (λ (u : Term). u.name) k)
at_among (suc i) (s ∷ ts) t e = inr (at_among i ts t e)

-- atoms of forms with the same sorted form have one normal form
pub compare_same : (r : _) (f g : Form) (c : Context) → gathered f ≡ gathered g → normal_atom c (Compare r f) ≡ normal_atom c (Compare r g)
unfolding normal_atom
compare_same r f g Fields e = ap (λ (h : Form). compared_in_fields r h.terms h.constant) e
compare_same r f g Integers e = ap (λ (h : Form). compared_over_integers r h.terms h.constant) e

pub congruent_same : (b : Bool) (n : ℕ) (f g : Form) (c : Context) → gathered f ≡ gathered g → normal_atom c (Congruent b n f) ≡ normal_atom c (Congruent b n g)
unfolding normal_atom
congruent_same b n f g Fields e = ap (congruent b (pos n)) e
congruent_same b n f g Integers e = ap (congruent b (pos n)) e

-- an atom whose names stay
pub atom_stays : (now : ℕ → ℕ) (a : Atom) → terms_named now (form_of a).terms ≡ (form_of a).terms → atom_named now a ≡ a
atom_stays now (Compare r f) e = ap (λ ts. Compare r (record { terms = ts; constant = f.constant })) e
atom_stays now (Congruent b n f) e = ap (λ ts. Congruent b n (record { terms = ts; constant = f.constant })) e

-- a number within the limit does not pass it
pub passes_not : (t : Tree) (a : Atom) → t ≡ One a → IsLinear (form_of a) → ¬ (ConstantPasses t)
passes_not t a e l p = past (form_of a).constant l.constant_within (subst ConstantPasses e p)
  where
    past : (z : ℤ) → InLimit z → PastLimit z → ⊥
    past z h k = omega (arith, ints, h, k)
