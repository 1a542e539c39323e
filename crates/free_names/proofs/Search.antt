-- A search for something that does not pass a test, along the members of a list.
use Rattle.std.proofs.Common.{◌≡◌, ◌⊎◌, inl, inr, ⊎_elim, ℕ, List, Bool, true, false, ◌&&◌, refl, subst, sym}
use Rattle.free_names.specs.Scopes.{AreAmong}

-- How far the search has come: all that have P are of the rest or pass the test.
pub record SearchedTo {X : Type 0} (all rest : X → Type 0) (has : X → Bool) : Type 0 where
  pub found : (x : X) → rest x → all x
  pub left : (x : X) → all x → rest x ⊎ (has x ≡ true)

module _ {X : Type 0} where
  pub search_start : (all : X → Type 0) (has : X → Bool) → SearchedTo all all has
  search_start all has = record { found = λ x h. h; left = λ x h. inl h }

  pub search_more : (all here rest : X → Type 0) (has : X → Bool) → SearchedTo all (λ x. here x ⊎ rest x) has
      → ((x : X) → here x → has x ≡ true) → SearchedTo all rest has
  search_more all here rest has s passes = record {
    found = λ x h. s.found x (inr h);
    left = λ x h. ⊎_elim (λ p. ⊎_elim (λ q. inr (passes x q)) (λ r. inl r) p) (λ t. inr t) (s.left x h);
  }

  pub search_end : (all : X → Type 0) (has : X → Bool) → SearchedTo all (λ x. ⊥) has → (x : X) → all x → has x ≡ true
  search_end all has s x h = ⊎_elim (λ b. absurd b) (λ t. t) (s.left x h)

  -- two searches
  pub among_both : (P Q : X → Type 0) (has : X → Bool) (r s : Bool) → AreAmong P has r → AreAmong Q has s → AreAmong (λ x. P x ⊎ Q x) has (r && s)
  among_both P Q has true true h k = λ x e. ⊎_elim (λ p. h x p) (λ q. k x q) e
  among_both P Q has true false h k = (k.0, inr k.1, k.2)
  among_both P Q has false s h k = (h.0, inl h.1, h.2)

-- a search for one
pub one_among : {X : Type 0} (has : X → Bool) (x : X) (r : Bool) → r ≡ has x → AreAmong (λ (y : X). x ≡ y) has r
one_among {X} has x true e = λ y q. subst (λ (z : X). has z ≡ true) q (sym e)
one_among has x false e = (x, refl, sym e)

-- a search for names that fails or not is one for their numbers
pub among_numbers : (P : List ℕ → Type 0) (number : List ℕ → ℕ) (has : ℕ → Bool) (r : Bool) → AreAmong P (λ x. has (number x)) r → AreAmong (λ n. (x : List ℕ) × P x × (number x ≡ n)) has r
among_numbers P number has true h = λ n m. subst (λ (k : ℕ). has k ≡ true) m.2 (h m.0 m.1)
among_numbers P number has false h = (number h.0, (h.0, h.1, refl), h.2)
