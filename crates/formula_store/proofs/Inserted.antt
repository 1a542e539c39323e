-- What the entries of a map become where a key is given a value.
use Rattle.std.proofs.Common.{◌≡◌, ℕ, zero, suc, ◌+◌, Bool, true, false, cond, not, if◌then◌else◌, List, [], ◌∷◌, ◌++◌, Some, slice_get, length, ◌⊎◌, inl, inr, ⊎_elim, refl, ap, sym, ◌∙◌, subst, arith}
use Rattle.std.specs.List.{position_or_len}
use Rattle.std.specs.Map.{keys_of}
use Rattle.indexmap.specs.IndexMap.{insert_entry}

module _ {K X : Type 0} (eq : K → K → Bool) (same : (a b : K) → eq a b ≡ true → a ≡ b) (k : K) (v : X) where
  -- the key stood at a place, and has the value now; or it is new and stands last
  pub data Inserts (old new : List (K × X)) (place : ℕ) : Type 0 where
    present : (x : X) → slice_get old place ≡ Some (k, x) → keys_of new ≡ keys_of old
        → ((j : ℕ) (e : K × X) → slice_get new j ≡ Some e → ((j ≡ place) × (e ≡ (k, v))) ⊎ (slice_get old j ≡ Some e)) → Inserts old new place
    absent : ((j : ℕ) (e : K × X) → slice_get old j ≡ Some e → eq k e.0 ≡ false) → place ≡ length old → new ≡ old ++ (k, v) ∷ [] → Inserts old new place

  first_at : (e d : K × X) (es : List (K × X)) → eq k e.0 ≡ true → (j : ℕ) → slice_get ((e.0, v) ∷ es) j ≡ Some d → ((j ≡ 0) × (d ≡ (k, v))) ⊎ (slice_get (e ∷ es) j ≡ Some d)
  first_at e d es h zero g = let s = same k e.0 h in let p : (e.0, v) ≡ d = cc in inl (refl, sym p ∙ ap (λ a. (a, v)) (sym s))
  first_at e d es h (suc j) g = inr g

  first : (e : K × X) (es : List (K × X)) → eq k e.0 ≡ true → Inserts (e ∷ es) ((e.0, v) ∷ es) 0
  first e es h = present e.1 (ap (λ a. Some (a, e.1)) (sym (same k e.0 h))) refl (λ j d g. first_at e d es h j g)

  later_at : (e d : K × X) (es more : List (K × X)) (place : ℕ) → ((j : ℕ) (a : K × X) → slice_get more j ≡ Some a → ((j ≡ place) × (a ≡ (k, v))) ⊎ (slice_get es j ≡ Some a))
      → (j : ℕ) → slice_get (e ∷ more) j ≡ Some d → ((j ≡ suc place) × (d ≡ (k, v))) ⊎ (slice_get (e ∷ es) j ≡ Some d)
  later_at e d es more place h zero g = inr g
  later_at e d es more place h (suc j) g = ⊎_elim (λ p. inl (ap suc p.0, p.1)) (λ p. inr p) (h j d g)

  absent_at : (e d : K × X) (es : List (K × X)) → eq k e.0 ≡ false → ((j : ℕ) (a : K × X) → slice_get es j ≡ Some a → eq k a.0 ≡ false) → (j : ℕ) → slice_get (e ∷ es) j ≡ Some d → eq k d.0 ≡ false
  absent_at e d es h g zero p = let q : e ≡ d = cc in subst (λ a. eq k a.0 ≡ false) q h
  absent_at e d es h g (suc j) p = g j d p

  later : (e : K × X) (es more : List (K × X)) (place : ℕ) → eq k e.0 ≡ false → Inserts es more place → Inserts (e ∷ es) (e ∷ more) (suc place)
  later e es more place h (present x there keys rest) = present x there (ap (λ ks. e.0 ∷ ks) keys) (λ j d g. later_at e d es more place rest j g)
  later e es more place h (absent none last new) = absent (λ j d g. absent_at e d es h none j g) (ap suc last) (ap (λ l. e ∷ l) new)

  step : (e : K × X) (es : List (K × X)) → Inserts es (insert_entry eq es k v) (position_or_len (eq k) (keys_of es)) → (b : Bool) → eq k e.0 ≡ b
      → Inserts (e ∷ es) (if b then (e.0, v) ∷ es else e ∷ insert_entry eq es k v) (cond (not b) (1 + position_or_len (eq k) (keys_of es)) 0)
  step e es g true h = first e es h
  step e es g false h = subst (λ n. Inserts (e ∷ es) (e ∷ insert_entry eq es k v) n) (omega arith) (later e es (insert_entry eq es k v) (position_or_len (eq k) (keys_of es)) h g)

  pub inserts : (es : List (K × X)) → Inserts es (insert_entry eq es k v) (position_or_len (eq k) (keys_of es))
  inserts [] = absent (λ j e g. cc) refl refl
  inserts (e ∷ es) = step e es (inserts es) (eq k e.0) refl
