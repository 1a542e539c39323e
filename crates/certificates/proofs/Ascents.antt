-- The ascent of the search, one part after the other.
use Rattle.std.proofs.Common.{◌≡◌, ◌+◌, ◌++◌, ◌<◌, ℕ, length, get_or, zero, suc, Bool, true, false, List, [], ◌∷◌, drop, Option, Some, None, Result, Err, refl, ap, sym, ◌∙◌, subst, nat_eq}
use Rattle.std.proofs.Math.IntN.{ℤ, pos, neg_ℤ}
use Rattle.std.specs.Prelude.{IfErr, option_map, slice_get, if◌then◌else◌}
use Rattle.std.proofs.lemmas.List.{drop_more}
use Rattle.std.proofs.lemmas.Option.{slice_get_within, get_or_from_slice_get, slice_get-get_or}
use Rattle.exact_numbers.specs.Limit.{InLimit}
use Rattle.exact_numbers.specs.Frac.{Frac, whole_frac, inverted, product_step, sum_step, ◌>>=◌}
use Rattle.logic_meaning.specs.Form.{Form, Term, coefficient, without, others}
use Rattle.linear_forms.specs.Linear.{term_of}
use Rattle.logic_meaning.specs.Terms.{AllInLimit}
use Rattle.logic_meaning.specs.declared.form.VarId.{VarId}
use Rattle.linear_forms.specs.declared.error.LinError.{LinError}
use Rattle.linear_forms.specs.declared.error.LinError.TheVariants.{Overflow, Memory}
use Rattle.logic_meaning.specs.Values.{Value}
use Rattle.logic_meaning.specs.Bounds.{value_among, terms_at, bound_of}
use Rattle.certificates.specs.Search.{Kept, plus_term, kept_value, with_kept, ascent}
use Rattle.certificates.specs.Found.{Lacks}

-- a call's error, passed on
pub err_lacks : {A B : Type 0} (r : Result A LinError) (e : LinError) (o : Option B) → r ≡ Err e → Lacks e o → IfErr r (λ e. Lacks e o)
err_lacks r e o h s = subst (λ (q : Result _ LinError). IfErr q (λ e. Lacks e o)) (sym h) s

-- ---- the sum of the other terms

pub without_terms : (x : ℕ) (f : Form) → others x f.terms ≡ (without x f).terms
unfolding without
without_terms x f = refl

-- one term more
pub term_more : (x : ℕ) (vs : List Value) (s : Frac) (t : Term) (ts : List Term) → terms_at vs s (others x (t ∷ ts)) ≡ (plus_term x vs s t >>= λ n. terms_at vs n (others x ts))
unfolding terms_at
term_more x vs s t ts = go (nat_eq x t.name)
  where
    added : (o : Option Frac) → (o >>= λ p. sum_step s p >>= λ n. terms_at vs n (others x ts)) ≡ ((o >>= λ p. sum_step s p) >>= λ n. terms_at vs n (others x ts))
    added None = refl
    added (Some p) = refl

    go : (b : Bool) → terms_at vs s (if b then others x ts else t ∷ others x ts) ≡ ((if b then Some s else product_step (whole_frac t.times) (value_among vs t.name) >>= λ p. sum_step s p) >>= λ n. terms_at vs n (others x ts))
    go true = refl
    go false = added (product_step (whole_frac t.times) (value_among vs t.name))

-- the term at a place of a form
module _ (x : ℕ) (vs : List Value) (ts : List Term) (i : ℕ) (t : Term) (e : Some t ≡ slice_get ts i) where
  pub split_at : drop i ts ≡ t ∷ drop (i + 1) ts
  split_at = drop_more ts i t (slice_get_within ts i t (sym e)) ∙ ap (λ u. u ∷ drop (i + 1) ts) (get_or_from_slice_get ts i t t (sym e))

  pub places_more : (s : Frac) → terms_at vs s (others x (drop i ts)) ≡ (plus_term x vs s t >>= λ n. terms_at vs n (others x (drop (i + 1) ts)))
  places_more s = ap (λ us. terms_at vs s (others x us)) split_at ∙ term_more x vs s t (drop (i + 1) ts)

-- there is one at each place
pub term_there : (o : Option (VarId × ℤ)) (ts : List Term) (i : ℕ) → ((p : VarId × ℤ) → ¬ (o ≡ Some p)) → option_map term_of o ≡ slice_get ts i → ¬ (i < length ts)
term_there None ts i n e h = let s : slice_get ts i ≡ Some (get_or ts i (record { times = pos 0; name = 0 })) = slice_get-get_or ts i (record { times = pos 0; name = 0 }) h in absurd (cc)
term_there (Some p) ts i n e h = n p refl

-- and its number is within the limit
pub limit_at : (ts : List Term) (i : ℕ) (t : Term) → AllInLimit ts → Some t ≡ slice_get ts i → InLimit t.times
limit_at [] i t h e = absurd (cc)
limit_at (u ∷ ts) zero t h e = let k : u ≡ t = cc in subst (λ (v : Term). InLimit v.times) k h.0
limit_at (u ∷ ts) (suc i) t h e = limit_at ts i t h.1 e

-- ---- a bound

module _ (x : ℕ) (vs : List Value) (f : Form) where
  -- from the sum of the terms, and from the sum with the constant
  abbrev pub with_constant : Option Frac → Option Frac
  with_constant o = o >>= λ terms. sum_step terms (whole_frac f.constant)

  abbrev pub over_coefficient : Option Frac → Option Frac
  over_coefficient o = o >>= λ sum. product_step sum (inverted (whole_frac (neg_ℤ (coefficient x f))))

  pub bound_is : over_coefficient (with_constant (terms_at vs (whole_frac (pos 0)) (without x f).terms)) ≡ bound_of x vs f
  unfolding bound_of
  bound_is = go (terms_at vs (whole_frac (pos 0)) (without x f).terms)
    where
      go : (o : Option Frac) → over_coefficient (with_constant o) ≡ (o >>= λ terms. over_coefficient (sum_step terms (whole_frac f.constant)))
      go None = refl
      go (Some a) = refl

-- ---- the bounds

-- bounds before those of a computation
abbrev pub bounds_after : List Frac → Option (List Frac) → Option (List Frac)
bounds_after made o = o >>= λ more. Some (made ++ more)

-- ---- one name after the other

ascent_split : (ks ls : List Kept) (o : Option (List Value)) → ascent (ks ++ ls) o ≡ ascent ks (ascent ls o)
ascent_split [] ls o = refl
ascent_split (k ∷ ks) ls o = ap (λ p. p >>= with_kept k) (ascent_split ks ls o)

none_ascends : (ks : List Kept) → ascent ks None ≡ None
none_ascends [] = refl
none_ascends (k ∷ ks) = ap (λ p. p >>= with_kept k) (none_ascends ks)

module _ (ks : List Kept) (k : Kept) (vs : List Value) (all : Option (List Value)) (h : ascent (ks ++ k ∷ []) (Some vs) ≡ all) where
  last : ascent ks (with_kept k vs) ≡ all
  last = sym (ascent_split ks (k ∷ []) (Some vs)) ∙ h

  -- the value of the last name more
  pub value_more : (a : Frac) → kept_value k vs ≡ Some a → ascent ks (Some (record { name = k.name; at = a } ∷ vs)) ≡ all
  value_more a e = sym (ap (λ (o : Option Frac). ascent ks (o >>= λ a. Some (record { name = k.name; at = a } ∷ vs))) e) ∙ last

  pub value_lacks : (e : LinError) → Lacks e (kept_value k vs) → Lacks e all
  value_lacks Overflow s = sym last ∙ ap (λ (o : Option Frac). ascent ks (o >>= λ a. Some (record { name = k.name; at = a } ∷ vs))) s ∙ none_ascends ks
  value_lacks Memory s = tt
