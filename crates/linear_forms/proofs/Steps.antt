-- The value of a form, product by product and sum by sum.
use Rattle.std.proofs.Common.{◌≡◌, ◌<◌, ◌⊎◌, inl, inr, ℕ, List, [], ◌∷◌, length, get_or, drop, drop-cons, add-one, ◌+◌, Option, Some, None, MatchOption, ap, sym, ◌∙◌, subst, refl, arith}
use Rattle.std.proofs.Math.IntN.{ℤ, pos, ◌+ℤ◌, ◌*ℤ◌}
use Rattle.std.specs.Prelude.{◌<ℤ◌, unsigned_abs}
use Rattle.std.proofs.lemmas.Int.{ints}
use Rattle.exact_numbers.specs.Limit.{PastLimit, checked}
use Rattle.exact_numbers.proofs.Limits.{by_limit}
use Rattle.logic_meaning.specs.Form.{Form, Term, total, value}
use Rattle.logic_meaning.specs.Terms.{total_steps, value_steps, TotalPasses, ValuePasses}
use Rattle.linear_forms.proofs.Places.{at_none}
use Rattle.logic_meaning.specs.declared.form.VarId.{VarId}
use Rattle.linear_forms.specs.Linear.{term_of, terms_of}
use Rattle.linear_forms.specs.Values.{Numbers, number_at, point_of}

-- ---- one term

pub step_product_none : (s : ℤ) (t : Term) (ts : List Term) (at : ℕ → ℤ) → checked (t.times *ℤ at t.name) ≡ None → total_steps s (t ∷ ts) at ≡ None
unfolding total_steps
step_product_none s t ts at e = rw e refl

pub step_sum_none : (s : ℤ) (t : Term) (ts : List Term) (at : ℕ → ℤ) → checked (t.times *ℤ at t.name) ≡ Some (t.times *ℤ at t.name) → checked (s +ℤ t.times *ℤ at t.name) ≡ None → total_steps s (t ∷ ts) at ≡ None
unfolding total_steps
step_sum_none s t ts at p e = rw p (rw e refl)

pub step_on : (s : ℤ) (t : Term) (ts : List Term) (at : ℕ → ℤ) → checked (t.times *ℤ at t.name) ≡ Some (t.times *ℤ at t.name) → checked (s +ℤ t.times *ℤ at t.name) ≡ Some (s +ℤ t.times *ℤ at t.name) → total_steps s (t ∷ ts) at ≡ total_steps (s +ℤ t.times *ℤ at t.name) ts at
unfolding total_steps
step_on s t ts at p e = rw p (rw e refl)

pub step_end : (s : ℤ) (at : ℕ → ℤ) → total_steps s [] at ≡ Some s
unfolding total_steps
step_end s at = refl

-- the terms from a place on
pub terms_from : (xs : List (VarId × ℤ)) (i : ℕ) (d : VarId × ℤ) → i < length xs → terms_of (drop i xs) ≡ term_of (get_or xs i d) ∷ terms_of (drop (i + 1) xs)
terms_from xs i d h = rw add-one (ap terms_of (drop-cons xs i d h))

-- ---- all terms

-- the steps give the sum so far and the total, or a number formed passes the limit
pub total_given : (s : ℤ) (ts : List Term) (at : ℕ → ℤ) → MatchOption (total_steps s ts at) (TotalPasses s ts at) (λ n. n ≡ s +ℤ total ts at)
total_given s [] at = subst (λ (o : Option ℤ). MatchOption o ⊥ (λ n. n ≡ s +ℤ pos 0)) (sym (step_end s at)) (omega (arith, ints))
total_given s (t ∷ ts) at =
    let p = t.times *ℤ at t.name in
    let Q : Option ℤ → Type 0 = λ o. MatchOption o (TotalPasses s (t ∷ ts) at) (λ n. n ≡ s +ℤ (p +ℤ total ts at)) in
    by_limit p
    (λ hp ep. by_limit (s +ℤ p)
    (λ hs es. subst Q (sym (step_on s t ts at ep es)) (later (PastLimit p) (PastLimit (s +ℤ p)) (TotalPasses (s +ℤ p) ts at) (total_steps (s +ℤ p) ts at) s p (total ts at) (total_given (s +ℤ p) ts at)))
    (λ hs es. subst Q (sym (step_sum_none s t ts at ep es)) (inr (inl hs))))
    (λ hp ep. subst Q (sym (step_product_none s t ts at ep)) (inl hp))
  where
    later : (A B R : Type 0) (o : Option ℤ) (s p r : ℤ) → MatchOption o R (λ n. n ≡ (s +ℤ p) +ℤ r) → MatchOption o (A ⊎ (B ⊎ R)) (λ n. n ≡ s +ℤ (p +ℤ r))
    later A B R None s p r h = inr (inr h)
    later A B R (Some n) s p r h = omega (arith, ints, h)

-- ---- the value

pub value_total_none : (f : Form) (at : ℕ → ℤ) (d : ℤ) → total_steps (pos 0) f.terms at ≡ None → value_steps f at d ≡ None
unfolding value_steps
value_total_none f at d e = rw e refl

pub value_product_none : (f : Form) (at : ℕ → ℤ) (d n : ℤ) → total_steps (pos 0) f.terms at ≡ Some n → checked (f.constant *ℤ d) ≡ None → value_steps f at d ≡ None
unfolding value_steps
value_product_none f at d n e p = rw e (rw p refl)

pub value_last : (f : Form) (at : ℕ → ℤ) (d n : ℤ) → total_steps (pos 0) f.terms at ≡ Some n → checked (f.constant *ℤ d) ≡ Some (f.constant *ℤ d) → value_steps f at d ≡ checked (n +ℤ f.constant *ℤ d)
unfolding value_steps
value_last f at d n e p = rw e (rw p refl)

value_parts : (f : Form) (at : ℕ → ℤ) (d : ℤ) (o : Option ℤ) → total_steps (pos 0) f.terms at ≡ o → MatchOption o (TotalPasses (pos 0) f.terms at) (λ n. n ≡ pos 0 +ℤ total f.terms at) → MatchOption (value_steps f at d) (ValuePasses f at d) (λ n. n ≡ total f.terms at +ℤ f.constant *ℤ d)
value_parts f at d None e h = subst (λ (o : Option ℤ). MatchOption o (ValuePasses f at d) (λ n. n ≡ total f.terms at +ℤ f.constant *ℤ d)) (sym (value_total_none f at d e)) (record { cause = inl h })
value_parts f at d (Some n) e h =
    let Q : Option ℤ → Type 0 = λ o. MatchOption o (ValuePasses f at d) (λ m. m ≡ total f.terms at +ℤ f.constant *ℤ d) in
    let same : n ≡ total f.terms at = omega (arith, ints, h) in
    by_limit (f.constant *ℤ d)
    (λ hp ep. by_limit (n +ℤ f.constant *ℤ d)
    (λ hs es. subst Q (sym (value_last f at d n e ep ∙ es)) (ap (λ m. m +ℤ f.constant *ℤ d) same))
    (λ hs es. subst Q (sym (value_last f at d n e ep ∙ es)) (record { cause = inr (inr (subst (λ (m : ℤ). PastLimit (m +ℤ f.constant *ℤ d)) same hs)) })))
    (λ hp ep. subst Q (sym (value_product_none f at d n e ep)) (record { cause = inr (inl hp) }))

-- the steps give the value times the denominator, or a number formed passes the limit
pub value_steps_given : (f : Form) (at : ℕ → ℤ) (d : ℤ) → MatchOption (value_steps f at d) (ValuePasses f at d) (λ n. n ≡ total f.terms at +ℤ f.constant *ℤ d)
value_steps_given f at d = value_parts f at d (total_steps (pos 0) f.terms at) refl (total_given (pos 0) f.terms at)

at_point : (f : Form) (v : Numbers) → pos 0 <ℤ v.denominator → total f.terms (number_at v) +ℤ f.constant *ℤ v.denominator ≡ value f (point_of v)
unfolding value
at_point f v h = let e : v.denominator ≡ pos (unsigned_abs v.denominator) = omega (arith, ints) in ap (λ d. total f.terms (number_at v) +ℤ f.constant *ℤ d) e

-- and so at the program's numbers
pub value_given : (f : Form) (v : Numbers) (o : Option ℤ) → pos 0 <ℤ v.denominator → o ≡ value_steps f (number_at v) v.denominator → MatchOption o (ValuePasses f (number_at v) v.denominator) (λ n. n ≡ value f (point_of v))
value_given f v o h e =
    subst (λ (n : ℤ). MatchOption o (ValuePasses f (number_at v) v.denominator) (λ m. m ≡ n)) (at_point f v h)
    (subst (λ (x : Option ℤ). MatchOption x (ValuePasses f (number_at v) v.denominator) (λ m. m ≡ total f.terms (number_at v) +ℤ f.constant *ℤ v.denominator)) (sym e) (value_steps_given f (number_at v) v.denominator))

-- steps that are refused met a number past the limit
pub value_refused : (f : Form) (at : ℕ → ℤ) (d : ℤ) (o : Option ℤ) (Q : ℤ → Type 0) → o ≡ None → o ≡ value_steps f at d → MatchOption o (ValuePasses f at d) Q
value_refused f at d o Q e r =
    let p = at_none (value_steps f at d) (ValuePasses f at d) (λ n. n ≡ total f.terms at +ℤ f.constant *ℤ d) (sym r ∙ e) (value_steps_given f at d) in
    subst (λ (x : Option ℤ). MatchOption x (ValuePasses f at d) Q) (sym e) p
