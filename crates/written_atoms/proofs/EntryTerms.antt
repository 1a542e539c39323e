-- Coefficients by name, and the terms that they are.
use Rattle.std.proofs.Common.{◌≡◌, inl, inr, ◌<◌, ◌+◌, ℕ, zero, suc, Bool, true, false, List, [], ◌∷◌, ◌++◌, take, Some, None, ap, sym, ◌∙◌, subst, refl, arith, nat_eq, nat_cmp, eq-eqb, Less, append_assoc, if◌then◌else◌}
use Rattle.std.proofs.Math.IntN.{ℤ, pos, negsuc, ◌+ℤ◌, ◌*ℤ◌}
use Rattle.std.specs.Prelude.{slice_get, unwrap_or, Result, Ok, Err, OnOk, OnErr}
use Rattle.std.specs.Map.{lookup, keys_of}
use Rattle.std.specs.List.{AllByRecursion}
use Rattle.std.specs.List.Sorted.{IsStrictlySortedBy}
use Rattle.std.proofs.lemmas.Bool.{ne_eqb, cases_eq, cond-true, cond-false}
use Rattle.std.proofs.lemmas.Bool.Decides.{nat_tests}
use Rattle.std.proofs.lemmas.Int.{ints}
use Rattle.exact_numbers.specs.Limit.{InLimit}
use Rattle.exact_numbers.proofs.Ring.{mul_add, mul_zero}
use Rattle.logic_meaning.specs.Combining.{AddWithin}
use Rattle.logic_meaning.specs.Form.{Term, multiple}
use Rattle.logic_meaning.specs.Sorted.{AllAbove, IsRising, AllNonzero, with_term}
use Rattle.formula_laws.proofs.Sorted.{here, elsewhere}
use Rattle.logic_meaning.specs.declared.form.VarId.{VarId}
use Rattle.linear_forms.specs.Linear.{term_of, terms_of}
use Rattle.logic_meaning.specs.Terms.{AllInLimit}
use Rattle.linear_forms.specs.Combinations.{IsLinear}
use Rattle.linear_forms.proofs.Peeling.{terms_of-push}
use Rattle.written_atoms.specs.Entries.{coefficient_at}

-- the terms of the entries whose coefficient is not 0
abbrev pub nonzero_terms : List (ℕ × ℤ) → List Term
nonzero_terms [] = []
nonzero_terms (e ∷ es) = with_term e.1 e.0 (nonzero_terms es)

-- ---- one entry

pub entry_here : (e : ℕ × ℤ) (es : List (ℕ × ℤ)) (x : ℕ) → x ≡ e.0 → coefficient_at (e ∷ es) x ≡ e.1
entry_here e es x h = ap (λ o. unwrap_or o (pos 0)) (cond-true (nat_eq x e.0) (Some e.1) (lookup (nat_eq x) es) (eq-eqb x e.0 h))

pub entry_elsewhere : (e : ℕ × ℤ) (es : List (ℕ × ℤ)) (x : ℕ) → ¬ (x ≡ e.0) → coefficient_at (e ∷ es) x ≡ coefficient_at es x
entry_elsewhere e es x h = ap (λ o. unwrap_or o (pos 0)) (cond-false (nat_eq x e.0) (Some e.1) (lookup (nat_eq x) es) (ne_eqb x e.0 h))

-- the names of all entries are above x
EntriesAbove : ℕ → List (ℕ × ℤ) → Type 0
EntriesAbove x es = AllByRecursion (λ k. x < k) (keys_of es)

less_is : (x y : ℕ) → nat_cmp x y ≡ Less → x < y
less_is x y e = grind (arith, nat_tests)

above_from : (x : ℕ) (ks : List ℕ) → AllByRecursion (λ y. nat_cmp x y ≡ Less) ks → AllByRecursion (λ k. x < k) ks
above_from x [] h = tt
above_from x (k ∷ ks) h = (less_is x k h.0, above_from x ks h.1)

nothing_at : (x : ℕ) (es : List (ℕ × ℤ)) → EntriesAbove x es → coefficient_at es x ≡ pos 0
unfolding EntriesAbove
nothing_at x [] h = refl
nothing_at x (e ∷ es) h = let l = h.0 in entry_elsewhere e es x (λ (i : x ≡ e.0). omega arith) ∙ nothing_at x es h.1

-- entries in the order of their names, each within the limit
pub record AreInOrder (es : List (ℕ × ℤ)) : Type 0 where
  pub sorted : IsStrictlySortedBy nat_cmp (keys_of es)
  pub within : (x : ℕ) → InLimit (coefficient_at es x)

first_above : (e : ℕ × ℤ) (es : List (ℕ × ℤ)) → IsStrictlySortedBy nat_cmp (keys_of (e ∷ es)) → EntriesAbove e.0 es
unfolding EntriesAbove IsStrictlySortedBy
first_above e es s = above_from e.0 (keys_of es) s.0

pub order_rest : (e : ℕ × ℤ) (es : List (ℕ × ℤ)) → AreInOrder (e ∷ es) → AreInOrder es
unfolding IsStrictlySortedBy
order_rest e es o = record {
  sorted = o.sorted.1;
  within = λ x. elim (cases_eq x e.0) [
    | inl h ↦ subst (λ (z : ℤ). InLimit z) (sym (ap (coefficient_at es) h ∙ nothing_at e.0 es (first_above e es o.sorted))) (omega (arith, ints))
    | inr h ↦ subst (λ (z : ℤ). InLimit z) (entry_elsewhere e es x h) (o.within x)
  ];
}

pub order_first : (e : ℕ × ℤ) (es : List (ℕ × ℤ)) → AreInOrder (e ∷ es) → InLimit e.1
order_first e es o = subst (λ (z : ℤ). InLimit z) (entry_here e es e.0 refl) (o.within e.0)

-- ---- terms

pub with_nothing : (t : ℤ) (x : ℕ) (ts : List Term) → t ≡ pos 0 → with_term t x ts ≡ ts
with_nothing t x ts e = ap (λ z. with_term z x ts) e

pub with_something : (t : ℤ) (x : ℕ) (ts : List Term) → ¬ (t ≡ pos 0) → with_term t x ts ≡ record { times = t; name = x } ∷ ts
with_something (pos zero) x ts n = absurd (n refl)
with_something (pos (suc k)) x ts n = refl
with_something (negsuc k) x ts n = refl

zero_or : (t : ℤ) {P : Type 0} → (t ≡ pos 0 → P) → (¬ (t ≡ pos 0) → P) → P
zero_or (pos zero) p q = p refl
zero_or (pos (suc k)) p q = q (λ (e : pos (suc k) ≡ pos 0). omega (arith, ints))
zero_or (negsuc k) p q = q (λ (e : negsuc k ≡ pos 0). omega (arith, ints))

terms_above : (x : ℕ) (es : List (ℕ × ℤ)) → EntriesAbove x es → AllAbove x (nonzero_terms es)
unfolding EntriesAbove
terms_above x [] h = tt
terms_above x (e ∷ es) h =
    zero_or e.1
    (λ z. subst (AllAbove x) (sym (with_nothing e.1 e.0 (nonzero_terms es) z)) (terms_above x es h.1))
    (λ n. subst (AllAbove x) (sym (with_something e.1 e.0 (nonzero_terms es) n)) (h.0, terms_above x es h.1))

-- the entries' terms are rising and within the limit, no coefficient is 0, and each name has its coefficient
pub record AreTermsOf (es : List (ℕ × ℤ)) (ts : List Term) : Type 0 where
  pub rising : IsRising ts
  pub nonzero : AllNonzero ts
  pub within : AllInLimit ts
  pub coefficients : (x : ℕ) → multiple x ts ≡ coefficient_at es x

pub terms_of_entries : (es : List (ℕ × ℤ)) → AreInOrder es → AreTermsOf es (nonzero_terms es)
terms_of_entries [] o = record { rising = tt; nonzero = tt; within = tt; coefficients = λ x. refl }
terms_of_entries (e ∷ es) o =
    let r = terms_of_entries es (order_rest e es o) in
    let a = first_above e es o.sorted in
    let ts = nonzero_terms es in
    zero_or e.1
    (λ z. subst (AreTermsOf (e ∷ es)) (sym (with_nothing e.1 e.0 ts z)) (record {
      rising = r.rising;
      nonzero = r.nonzero;
      within = r.within;
      coefficients = λ x. elim (cases_eq x e.0) [
        | inl h ↦ r.coefficients x ∙ ap (coefficient_at es) h ∙ nothing_at e.0 es a ∙ sym z ∙ sym (entry_here e es x h)
        | inr h ↦ r.coefficients x ∙ sym (entry_elsewhere e es x h)
      ];
    }))
    (λ n. subst (AreTermsOf (e ∷ es)) (sym (with_something e.1 e.0 ts n)) (record {
      rising = (terms_above e.0 es a, r.rising);
      nonzero = (n, r.nonzero);
      within = (order_first e es o, r.within);
      coefficients = λ x. elim (cases_eq x e.0) [
        | inl h ↦ here x (record { times = e.1; name = e.0 }) ts (sym h) (subst (λ (y : ℕ). AllAbove y ts) (sym h) (terms_above e.0 es a)) ∙ sym (entry_here e es x h)
        | inr h ↦ elsewhere x (record { times = e.1; name = e.0 }) ts (λ i. h (sym i)) ∙ r.coefficients x ∙ sym (entry_elsewhere e es x h)
      ];
    }))

-- ---- the first terms of a list

abbrev pub at_name : ℕ → Term → ℤ
at_name x t = if nat_eq x t.name then t.times else pos 0

take_next : {X : Type 0} (i : ℕ) (x : X) (xs : List X) → take (suc i + 1) (x ∷ xs) ≡ x ∷ take (i + 1) xs
take_next i x xs = let e : suc i + 1 ≡ suc (i + 1) = omega arith in ap (λ n. take n (x ∷ xs)) e

pub multiple_take : (x i : ℕ) (ts : List Term) (t : Term) → slice_get ts i ≡ Some t → multiple x (take (i + 1) ts) ≡ multiple x (take i ts) +ℤ at_name x t
multiple_take x i [] t e = absurd (cc)
multiple_take x zero (s ∷ ts) t e = let k : s ≡ t = cc in go (nat_eq x s.name) ∙ ap (λ (u : Term). pos 0 +ℤ at_name x u) k
  where
    go : (b : Bool) → (if b then s.times +ℤ pos 0 else pos 0) ≡ pos 0 +ℤ (if b then s.times else pos 0)
    go true = omega (arith, ints)
    go false = refl
multiple_take x (suc i) (s ∷ ts) t e = ap (multiple x) (take_next i s ts) ∙ go (nat_eq x s.name) (multiple_take x i ts t e)
  where
    go : (b : Bool) → multiple x (take (i + 1) ts) ≡ multiple x (take i ts) +ℤ at_name x t
        → (if b then s.times +ℤ multiple x (take (i + 1) ts) else multiple x (take (i + 1) ts)) ≡ (if b then s.times +ℤ multiple x (take i ts) else multiple x (take i ts)) +ℤ at_name x t
    go true h = omega (arith, ints)
    go false h = h

at_same : (v x : ℕ) (t : ℤ) → v ≡ x → at_name x (record { times = t; name = v }) ≡ t
at_same v x t p = cond-true (nat_eq x v) t (pos 0) (eq-eqb x v (sym p))

at_other : (v x : ℕ) (t : ℤ) → ¬ (v ≡ x) → at_name x (record { times = t; name = v }) ≡ pos 0
at_other v x t p = cond-false (nat_eq x v) t (pos 0) (ne_eqb x v (λ q. p (sym q)))

above_at : (x : ℕ) (ts : List Term) (i : ℕ) (t : Term) → AllAbove x ts → slice_get ts i ≡ Some t → x < t.name
above_at x [] i t a e = absurd (cc)
above_at x (s ∷ ts) zero t a e = let k : s ≡ t = cc in subst (λ (u : Term). x < u.name) k a.0
above_at x (s ∷ ts) (suc i) t a e = above_at x ts i t a.1 e

-- before a term of a rising list its name does not stand
pub none_before : (ts : List Term) (i : ℕ) (t : Term) → IsRising ts → slice_get ts i ≡ Some t → multiple t.name (take i ts) ≡ pos 0
none_before [] i t r e = absurd (cc)
none_before (s ∷ ts) zero t r e = refl
none_before (s ∷ ts) (suc i) t r e = let l = above_at s.name ts i t r.0 e in elsewhere t.name s (take i ts) (λ (k : s.name ≡ t.name). omega arith) ∙ none_before ts i t r.1 e

pub take_whole : (ts : List Term) (i : ℕ) → slice_get ts i ≡ None → take i ts ≡ ts
take_whole [] zero e = refl
take_whole [] (suc i) e = refl
take_whole (s ∷ ts) zero e = absurd (cc)
take_whole (s ∷ ts) (suc i) e = ap (λ us. s ∷ us) (take_whole ts i e)

pub within_at : (ts : List Term) (i : ℕ) (t : Term) → AllInLimit ts → slice_get ts i ≡ Some t → InLimit t.times
within_at [] i t a e = absurd (cc)
within_at (s ∷ ts) zero t a e = let k : s ≡ t = cc in subst (λ (u : Term). InLimit u.times) k a.0
within_at (s ∷ ts) (suc i) t a e = within_at ts i t a.1 e

-- ---- a coefficient put in

pub either_way : {X E : Type 0} (r : Result X E) {P Q R : Type 0} → OnOk r P → OnErr r Q → (P → R) → (Q → R) → R
either_way (Ok x) p q f g = f p
either_way (Err e) p q f g = g q

chosen : (b : Bool) (n m : ℤ) → InLimit n → InLimit m → InLimit (let z : ℤ = if b then n else m in z)
chosen true n m h k = h
chosen false n m h k = k

pub put_within : (old new : List (ℕ × ℤ)) (v : ℕ) (n : ℤ) → ((x : ℕ) → coefficient_at new x ≡ (if nat_eq v x then n else coefficient_at old x)) → InLimit n → ((x : ℕ) → InLimit (coefficient_at old x)) → (x : ℕ) → InLimit (coefficient_at new x)
put_within old new v n u h w x = subst (λ (z : ℤ). InLimit z) (sym (u x)) (chosen (nat_eq v x) n (coefficient_at old x) h (w x))

-- k times one term more is added
pub added_more : (old now new : List (ℕ × ℤ)) (ts : List Term) (i v : ℕ) (k t n : ℤ) → ((x : ℕ) → coefficient_at new x ≡ (if nat_eq v x then n else coefficient_at now x)) → n ≡ coefficient_at now v +ℤ k *ℤ t
    → slice_get ts i ≡ Some (record { times = t; name = v }) → ((x : ℕ) → coefficient_at now x ≡ coefficient_at old x +ℤ k *ℤ multiple x (take i ts))
    → (x : ℕ) → coefficient_at new x ≡ coefficient_at old x +ℤ k *ℤ multiple x (take (i + 1) ts)
added_more old now new ts i v k t n u e at h x =
    let m = multiple_take x i ts (record { times = t; name = v }) at in
    elim (cases_eq v x) [
      | inl p ↦
          let a : coefficient_at new x ≡ n = u x ∙ cond-true (nat_eq v x) n (coefficient_at now x) (eq-eqb v x p) in
          let b = at_same v x t p in
          let c : n ≡ coefficient_at now x +ℤ k *ℤ t = e ∙ ap (λ y. coefficient_at now y +ℤ k *ℤ t) p in
          together (coefficient_at now x) (coefficient_at old x) (multiple x (take i ts)) (multiple x (take (i + 1) ts)) t (coefficient_at new x) (k *ℤ t) (a ∙ c) refl (h x) (m ∙ ap (λ z. multiple x (take i ts) +ℤ z) b)
      | inr p ↦
          let a : coefficient_at new x ≡ coefficient_at now x = u x ∙ cond-false (nat_eq v x) n (coefficient_at now x) (ne_eqb v x p) in
          let b = at_other v x t p in
          together (coefficient_at now x) (coefficient_at old x) (multiple x (take i ts)) (multiple x (take (i + 1) ts)) (pos 0) (coefficient_at new x) (pos 0) (a ∙ nothing (coefficient_at now x)) (sym (mul_zero k)) (h x) (m ∙ ap (λ z. multiple x (take i ts) +ℤ z) b)
    ]
  where
    nothing : (z : ℤ) → z ≡ z +ℤ pos 0
    nothing z = omega (arith, ints)

    sums : (new now old m d r : ℤ) → new ≡ now +ℤ d → now ≡ old +ℤ m → r ≡ m +ℤ d → new ≡ old +ℤ r
    sums new now old m d r a b c = omega (arith, ints)

    together : (now old m more at new d : ℤ) → new ≡ now +ℤ d → d ≡ k *ℤ at → now ≡ old +ℤ k *ℤ m → more ≡ m +ℤ at → new ≡ old +ℤ k *ℤ more
    together now old m more at new d a b c f = sums new now old (k *ℤ m) d (k *ℤ more) a c (ap (λ z. k *ℤ z) f ∙ mul_add k m at ∙ ap (λ z. k *ℤ m +ℤ z) (sym b))

-- k times one term more may be added
pub within_more : (es : List (ℕ × ℤ)) (k : ℤ) (ts : List Term) (i v : ℕ) (t : ℤ) → IsRising ts → slice_get ts i ≡ Some (record { times = t; name = v }) → AddWithin (coefficient_at es v) (k *ℤ t)
    → ((x : ℕ) → AddWithin (coefficient_at es x) (k *ℤ multiple x (take i ts))) → (x : ℕ) → AddWithin (coefficient_at es x) (k *ℤ multiple x (take (i + 1) ts))
within_more es k ts i v t r at w h x =
    let m = multiple_take x i ts (record { times = t; name = v }) at in
    elim (cases_eq v x) [
      | inl p ↦
          let z : multiple x (take i ts) ≡ pos 0 = ap (λ y. multiple y (take i ts)) (sym p) ∙ none_before ts i (record { times = t; name = v }) r at in
          let e : multiple x (take (i + 1) ts) ≡ t = only _ _ _ _ m z (at_same v x t p) in
          subst (λ (n : ℤ). AddWithin (coefficient_at es x) (k *ℤ n)) (sym e) (subst (λ (y : ℕ). AddWithin (coefficient_at es y) (k *ℤ t)) p w)
      | inr p ↦ subst (λ (n : ℤ). AddWithin (coefficient_at es x) (k *ℤ n)) (sym (same _ _ _ m (at_other v x t p))) (h x)
    ]
  where
    only : (more m at t : ℤ) → more ≡ m +ℤ at → m ≡ pos 0 → at ≡ t → more ≡ t
    only more m at t a b c = omega (arith, ints)

    same : (more m at : ℤ) → more ≡ m +ℤ at → at ≡ pos 0 → more ≡ m
    same more m at a b = omega (arith, ints)

-- ---- terms made one after another

-- a term more at the end
pub terms_pushed : (xs ys : List (VarId × ℤ)) (p : VarId × ℤ) (rest : List Term) → ys ≡ xs ++ p ∷ [] → ¬ (p.1 ≡ pos 0) → terms_of ys ++ rest ≡ terms_of xs ++ with_term p.1 p.0.number rest
terms_pushed xs ys p rest e n =
    ap (λ zs. terms_of zs ++ rest) e ∙ ap (λ ts. ts ++ rest) (terms_of-push xs p) ∙ append_assoc (terms_of xs) (term_of p ∷ []) rest ∙ ap (λ ts. terms_of xs ++ ts) (sym (with_something p.1 p.0.number rest n))

pub form_of_entries : (es : List (ℕ × ℤ)) (ts : List Term) (k : ℤ) → AreInOrder es → InLimit k → ts ≡ nonzero_terms es → IsLinear (record { terms = ts; constant = k })
form_of_entries es ts k o h e =
    let t = subst (AreTermsOf es) (sym e) (terms_of_entries es o) in
    record { sorted = record { rising = t.rising; nonzero = t.nonzero }; within = t.within; constant_within = h }
