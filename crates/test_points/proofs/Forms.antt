-- Forms without a name, and with a name put at a form over a number.
use Rattle.std.proofs.Common.{◌≡◌, ℕ, zero, suc, ◌+◌, ◌≤◌, Bool, true, false, nat_eq, sym, ap, ◌∙◌, subst, refl, arith, eqb-true, eq-eqb, List, [], ◌∷◌, ◌++◌, ◌<◌, length, take, get_or, Option, Some, None, if◌then◌else◌}
use Rattle.std.proofs.Math.IntN.{ℤ, pos, negsuc, ◌*ℤ◌, neg_ℤ}
use Rattle.std.specs.Prelude.{slice_get, option_map}
use Rattle.std.proofs.lemmas.Option.{slice_get-get_or}
use Rattle.std.proofs.lemmas.Int.{ints}
use Rattle.std.proofs.lemmas.List.{take_all}
use Rattle.exact_numbers.specs.Limit.{InLimit}
use Rattle.logic_meaning.specs.Form.{Form, Term, scaled, others, coefficient, without, scale}
use Rattle.logic_meaning.specs.Sorted.{gathered}
use Rattle.formula_laws.proofs.Gathered.{gathered_combination, sorted_stays}
use Rattle.logic_meaning.specs.Substitution.{form_at}
use Rattle.formula_laws.proofs.Sorted.{scale_sorted}
use Rattle.linear_forms.specs.Linear.{term_of, terms_of}
use Rattle.linear_forms.specs.Combinations.{IsLinear, IsCombination}
use Rattle.logic_meaning.specs.declared.form.VarId.{VarId}
use Rattle.logic_meaning.specs.Terms.{AllInLimit}
use Rattle.linear_forms.proofs.Peeling.{terms_of-push}
use Rattle.linear_forms.proofs.Search.{multiple_within}
use Rattle.linear_forms.proofs.Determined.{without_linear}

pub coefficient_within : (x : ℕ) (f : Form) → IsLinear f → InLimit (coefficient x f)
unfolding coefficient
coefficient_within x f h = multiple_within x f.terms h.sorted.rising h.within

-- ---- without a name

-- the terms, or their negatives
abbrev pub signed_terms : Bool → List Term → List Term
signed_terms negative ts = if negative then scaled (negsuc 0) ts else ts

scaled_last : (a : ℤ) (ts : List Term) (t : Term) → scaled a (ts ++ t ∷ []) ≡ scaled a ts ++ record { times = a *ℤ t.times; name = t.name } ∷ []
scaled_last a [] t = refl
scaled_last a (s ∷ ts) t = ap (λ (us : List Term). record { times = a *ℤ s.times; name = s.name } ∷ us) (scaled_last a ts t)

-- the first terms, of which the last has the name or another one
others_skip : (x : ℕ) (ts : List Term) (i : ℕ) (t : Term) → slice_get ts i ≡ Some t → t.name ≡ x → others x (take (suc i) ts) ≡ others x (take i ts)
others_skip x [] i t e n = absurd (cc)
others_skip x (s ∷ ts) zero t e n =
    let k : s ≡ t = cc in
    let h : nat_eq x s.name ≡ true = eq-eqb x s.name (sym n ∙ ap (λ (u : Term). u.name) (sym k)) in rw h refl
others_skip x (s ∷ ts) (suc i) t e n = ap (λ (us : List Term). if nat_eq x s.name then us else s ∷ us) (others_skip x ts i t e n)

others_keep : (x : ℕ) (ts : List Term) (i : ℕ) (t : Term) → slice_get ts i ≡ Some t → ¬ (t.name ≡ x) → others x (take (suc i) ts) ≡ others x (take i ts) ++ t ∷ []
others_keep x [] i t e n = absurd (cc)
others_keep x (s ∷ ts) zero t e n = let k : s ≡ t = cc in go (nat_eq x s.name) refl k
  where
    go : (b : Bool) → nat_eq x s.name ≡ b → s ≡ t → (if b then [] else s ∷ []) ≡ t ∷ []
    go true h k = absurd (n (ap (λ (u : Term). u.name) (sym k) ∙ sym (eqb-true x s.name h)))
    go false h k = ap (λ (u : Term). u ∷ []) k
others_keep x (s ∷ ts) (suc i) t e n = go (nat_eq x s.name) (others_keep x ts i t e n)
  where
    go : (b : Bool) → others x (take (suc i) ts) ≡ others x (take i ts) ++ t ∷ [] →
        (if b then others x (take (suc i) ts) else s ∷ others x (take (suc i) ts)) ≡ (if b then others x (take i ts) else s ∷ others x (take i ts)) ++ t ∷ []
    go true h = h
    go false h = ap (λ (us : List Term). s ∷ us) h

module _ (negative : Bool) (x : ℕ) (ts : List Term) (i : ℕ) (t : Term) (at : slice_get ts i ≡ Some t) (kept : List (VarId × ℤ)) (so_far : terms_of kept ≡ signed_terms negative (others x (take i ts))) where
  one_on : suc i ≡ i + 1
  one_on = omega arith

  -- the term of the name goes
  pub terms_skip : t.name ≡ x → terms_of kept ≡ signed_terms negative (others x (take (i + 1) ts))
  terms_skip n = so_far ∙ ap (signed_terms negative) (sym (others_skip x ts i t at n) ∙ ap (λ (k : ℕ). others x (take k ts)) one_on)

  -- another one stays
  pub terms_keep : (p : VarId × ℤ) → ¬ (t.name ≡ x) → p.0.number ≡ t.name → p.1 ≡ (if negative then neg_ℤ t.times else t.times) → terms_of (kept ++ p ∷ []) ≡ signed_terms negative (others x (take (i + 1) ts))
  terms_keep p n name times =
      terms_of-push kept p ∙ ap (λ (us : List Term). us ++ term_of p ∷ []) so_far ∙ go negative times ∙ ap (signed_terms negative) (sym (others_keep x ts i t at n) ∙ ap (λ (k : ℕ). others x (take k ts)) one_on)
    where
      go : (b : Bool) → p.1 ≡ (if b then neg_ℤ t.times else t.times) → signed_terms b (others x (take i ts)) ++ term_of p ∷ [] ≡ signed_terms b (others x (take i ts) ++ t ∷ [])
      go true e =
          let k : p.1 ≡ negsuc 0 *ℤ t.times = omega (arith, ints, e) in
          ap (λ (u : Term). scaled (negsuc 0) (others x (take i ts)) ++ u ∷ []) (λ j. record { times = k j; name = name j })
          ∙ sym (scaled_last (negsuc 0) (others x (take i ts)) t)
      go false e = ap (λ (u : Term). others x (take i ts) ++ u ∷ []) (λ j. record { times = e j; name = name j })

-- a term's number is within the limit
pub times_within : (ts : List Term) (i : ℕ) (t : Term) → AllInLimit ts → slice_get ts i ≡ Some t → InLimit t.times
times_within [] i t h e = absurd (cc)
times_within (s ∷ ts) zero t h e = let k : s ≡ t = cc in subst (λ (u : Term). InLimit u.times) k h.0
times_within (s ∷ ts) (suc i) t h e = times_within ts i t h.1 e

-- there is a term at each place
pub some_term : (o : Option (VarId × ℤ)) (ts : List Term) (i : ℕ) → ((p : VarId × ℤ) → ¬ (o ≡ Some p)) → option_map term_of o ≡ slice_get ts i → ¬ (i < length ts)
some_term None ts i n e h = let s : slice_get ts i ≡ Some (get_or ts i (record { times = pos 0; name = 0 })) = slice_get-get_or ts i (record { times = pos 0; name = 0 }) h in absurd (cc)
some_term (Some p) ts i n e h = n p refl

-- all terms are gone through
pub terms_done : (negative : Bool) (x : ℕ) (ts : List Term) (i : ℕ) (kept : List (VarId × ℤ)) → length ts ≤ i → terms_of kept ≡ signed_terms negative (others x (take i ts)) → terms_of kept ≡ signed_terms negative (others x ts)
terms_done negative x ts i kept h e = e ∙ ap (λ (us : List Term). signed_terms negative (others x us)) (take_all i ts h)

signed_within : (c : ℤ) → InLimit c → InLimit (negsuc 0 *ℤ c)
signed_within c h = omega (arith, ints)

scaled_within : (ts : List Term) → AllInLimit ts → AllInLimit (scaled (negsuc 0) ts)
scaled_within [] h = tt
scaled_within (t ∷ ts) h = (signed_within t.times h.0, scaled_within ts h.1)

negative_linear : (f : Form) → IsLinear f → IsLinear (scale (negsuc 0) f)
unfolding scale
negative_linear f h = record {
  sorted = scale_sorted (negsuc 0) f (λ (e : negsuc 0 ≡ pos 0). absurd (omega (arith, ints))) h.sorted;
  within = scaled_within f.terms h.within;
  constant_within = signed_within f.constant h.constant_within;
}

-- the form without the name, or its negative
abbrev pub rest_of : Bool → ℕ → Form → Form
rest_of negative x f = if negative then scale (negsuc 0) (without x f) else without x f

-- it has these terms and this constant
pub rest_is : (negative : Bool) (x : ℕ) (f : Form) (ts : List Term) (c : ℤ) → ts ≡ signed_terms negative (others x f.terms) → c ≡ (if negative then neg_ℤ f.constant else f.constant) →
    record { terms = ts; constant = c } ≡ rest_of negative x f
unfolding scale without
rest_is true x f ts c e k = let m : c ≡ negsuc 0 *ℤ f.constant = omega (arith, ints, k) in λ i. record { terms = e i; constant = m i }
rest_is false x f ts c e k = λ i. record { terms = e i; constant = k i }

pub rest_linear : (negative : Bool) (x : ℕ) (f : Form) → IsLinear f → IsLinear (rest_of negative x f)
rest_linear true x f h = negative_linear (without x f) (without_linear x f h)
rest_linear false x f h = without_linear x f h

-- ---- with a name put at a form over a number

-- the normal form of an atom over a combination is that of the atom over the sorted form that a program makes
pub gathered_at : (x : ℕ) (e : Form) (d : ℕ) (f v : Form) → IsCombination (coefficient x f) e (pos d) (without x f) v → gathered (form_at x e d f) ≡ gathered v
gathered_at x e d f v c = gathered_combination (coefficient x f) e (pos d) (without x f) v c.linear.sorted c.coefficients_add c.constants_add ∙ sym (sorted_stays v c.linear.sorted)
