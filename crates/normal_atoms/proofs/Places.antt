-- Two lists of terms compared place by place, each divided by a number of its own.
use Rattle.std.proofs.Common.{◌≡◌, ◌+◌, ◌<◌, ℕ, zero, suc, List, [], ◌∷◌, length, drop, Option, Some, None, sym, subst, ◌∙◌, ap, refl, arith, add-one}
use Rattle.std.proofs.Math.IntN.{ℤ}
use Rattle.std.specs.Prelude.{int_div, slice_get, option_map}
use Rattle.exact_numbers.specs.Limit.{InLimit}
use Rattle.logic_meaning.specs.Form.{Term}
use Rattle.linear_forms.specs.Linear.{term_of}
use Rattle.logic_meaning.specs.declared.form.VarId.{VarId}
use Rattle.logic_meaning.specs.Terms.{AllInLimit}
use Rattle.logic_meaning.specs.Reduction.{quotients}

-- the lists have the same quotients exactly where they have from the place on
pub record IsSameBefore (d : ℤ) (fs : List Term) (e : ℤ) (gs : List Term) (k : ℕ) : Type 0 where
  pub onward : quotients d fs ≡ quotients e gs → quotients d (drop k fs) ≡ quotients e (drop k gs)
  pub whole : quotients d (drop k fs) ≡ quotients e (drop k gs) → quotients d fs ≡ quotients e gs

pub same_before_start : (d : ℤ) (fs : List Term) (e : ℤ) (gs : List Term) → IsSameBefore d fs e gs 0
same_before_start d fs e gs = record { onward = λ h. h; whole = λ h. h }

-- the term read at a place
pub read_term : {o : Option (VarId × ℤ)} (p : VarId × ℤ) (ts : List Term) (k : ℕ) → option_map term_of o ≡ slice_get ts k → o ≡ Some p → slice_get ts k ≡ Some (term_of p)
read_term p ts k e h = sym e ∙ ap (option_map term_of) h

pub nothing_read : {o : Option (VarId × ℤ)} (ts : List Term) (k : ℕ) → option_map term_of o ≡ slice_get ts k → o ≡ None → slice_get ts k ≡ None
nothing_read ts k e h = sym e ∙ ap (option_map term_of) h

drop_at : (ts : List Term) (k : ℕ) (t : Term) → slice_get ts k ≡ Some t → drop k ts ≡ t ∷ drop (suc k) ts
drop_at [] k t e = absurd (cc)
drop_at (s ∷ ts) zero t e = let h : s ≡ t = cc in ap (λ x. x ∷ ts) h
drop_at (s ∷ ts) (suc k) t e = drop_at ts k t e

pub place_there : (ts : List Term) (k : ℕ) → k < length ts → slice_get ts k ≡ None → ⊥
place_there [] k h e = omega arith
place_there (t ∷ ts) zero h e = cc
place_there (t ∷ ts) (suc k) h e = place_there ts k (omega arith) e

pub within_place : (ts : List Term) (k : ℕ) (t : Term) → slice_get ts k ≡ Some t → AllInLimit ts → InLimit t.times
within_place [] k t e w = absurd (cc)
within_place (s ∷ ts) zero t e w = let h : s ≡ t = cc in subst (λ (u : Term). InLimit u.times) h w.0
within_place (s ∷ ts) (suc k) t e w = within_place ts k t e w.1

-- the term with its quotient
abbrev divided : ℤ → Term → Term
divided d t = record { times = int_div t.times d; name = t.name }

at_place : (d : ℤ) (ts : List Term) (k : ℕ) (t : Term) → slice_get ts k ≡ Some t → quotients d (drop k ts) ≡ divided d t ∷ quotients d (drop (suc k) ts)
at_place d ts k t e = ap (quotients d) (drop_at ts k t e)

module _ (d : ℤ) (fs : List Term) (e : ℤ) (gs : List Term) (k : ℕ) (h : IsSameBefore d fs e gs k) (t u : Term) (x : slice_get fs k ≡ Some t) (y : slice_get gs k ≡ Some u) where
  pub same_before_next : (t.name ≡ u.name) × (int_div t.times d ≡ int_div u.times e) → IsSameBefore d fs e gs (k + 1)
  same_before_next s =
      let a = at_place d fs k t x in
      let b = at_place e gs k u y in
      let c : divided d t ≡ divided e u = λ i. record { times = s.1 i; name = s.0 i } in
      rw (add-one) (record {
        onward = λ q. let w : divided d t ∷ quotients d (drop (suc k) fs) ≡ divided e u ∷ quotients e (drop (suc k) gs) = sym a ∙ h.onward q ∙ b in cc;
        whole = λ q. h.whole (a ∙ (λ i. c i ∷ q i) ∙ sym b);
      })

  pub differ_here : ¬ ((t.name ≡ u.name) × (int_div t.times d ≡ int_div u.times e)) → ¬ (quotients d fs ≡ quotients e gs)
  differ_here n q =
      let w : divided d t ∷ quotients d (drop (suc k) fs) ≡ divided e u ∷ quotients e (drop (suc k) gs) = sym (at_place d fs k t x) ∙ h.onward q ∙ at_place e gs k u y in
      let c : divided d t ≡ divided e u = cc in
      n (ap (λ (s : Term). s.name) c, ap (λ (s : Term). s.times) c)

drop_all : (ts : List Term) (k : ℕ) → length ts ≡ k → drop k ts ≡ []
drop_all [] zero e = refl
drop_all [] (suc k) e = refl
drop_all (t ∷ ts) zero e = absurd (omega arith)
drop_all (t ∷ ts) (suc k) e = drop_all ts k (omega arith)

pub same_to_end : (d : ℤ) (fs : List Term) (e : ℤ) (gs : List Term) (k : ℕ) → IsSameBefore d fs e gs k → length fs ≡ k → length gs ≡ k → quotients d fs ≡ quotients e gs
same_to_end d fs e gs k h x y = h.whole (ap (quotients d) (drop_all fs k x) ∙ sym (ap (quotients e) (drop_all gs k y)))

length_quotients : (d : ℤ) (ts : List Term) → length (quotients d ts) ≡ length ts
length_quotients d [] = refl
length_quotients d (t ∷ ts) = ap suc (length_quotients d ts)

pub other_length : (d : ℤ) (fs : List Term) (e : ℤ) (gs : List Term) → ¬ (length fs ≡ length gs) → ¬ (quotients d fs ≡ quotients e gs)
other_length d fs e gs n h = n (sym (length_quotients d fs) ∙ ap length h ∙ length_quotients e gs)
