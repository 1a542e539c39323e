-- The test of free names is right where that of atoms is.
use Rattle.std.proofs.Common.{◌≡◌, ℕ, Bool, true, false, not, nat_eq, refl, sym, ◌∙◌, ◌⊎◌, inl, inr, ⊎_elim, eq-eqb, eqb-true}
use Rattle.std.specs.Prelude.{◌||◌, ◌&&◌}
use Rattle.logic_meaning.specs.Formula.{Formula, Formulas, Yes, No, One, Not, And, Or, Impl, Repl, Equiv, Ex, All, none, also}
use Rattle.logic_meaning.specs.Every.{Free, FreeInSome}
use Rattle.shape_theory.specs.Kit.{Kit}
use Rattle.shape_theory.specs.Pass.{is_free, is_free_in_some}

-- the test of a name is true exactly where it stands in the atom
pub record NamesTold {A : Type 0} (kit : Kit A) (Mentions : A → ℕ → Type 0) : Type 0 where
  pub there : (a : A) (x : ℕ) → kit.contains a x ≡ true → Mentions a x
  pub absent : (a : A) (x : ℕ) → Mentions a x → kit.contains a x ≡ true

or_true : (a b : Bool) → (a || b) ≡ true → (a ≡ true) ⊎ (b ≡ true)
or_true true b e = inl refl
or_true false b e = inr e

true_or : (a b : Bool) → (a ≡ true) ⊎ (b ≡ true) → (a || b) ≡ true
true_or true b h = refl
true_or false b h = ⊎_elim (λ e. absurd (cc (e))) (λ e. e) h

other_true : (y x : ℕ) (b : Bool) → (not (nat_eq y x) && b) ≡ true → ¬ (y ≡ x) × (b ≡ true)
other_true y x b e = split (nat_eq y x) refl e
  where
    split : (t : Bool) → nat_eq y x ≡ t → (not t && b) ≡ true → ¬ (y ≡ x) × (b ≡ true)
    split true h k = absurd (cc (k))
    split false h k = (λ q. let w : true ≡ false = sym (eq-eqb y x q) ∙ h in absurd (cc (w)), k)

true_other : (y x : ℕ) (b : Bool) → ¬ (y ≡ x) → b ≡ true → (not (nat_eq y x) && b) ≡ true
true_other y x b n e = split (nat_eq y x) refl
  where
    split : (t : Bool) → nat_eq y x ≡ t → (not t && b) ≡ true
    split true h = absurd (n (eqb-true y x h))
    split false h = e

module _ {A : Type 0} (kit : Kit A) (Mentions : A → ℕ → Type 0) (told : NamesTold kit Mentions) (x : ℕ) where
  mutual
    pub told_free : (f : Formula A ℕ) → is_free kit x f ≡ true → Free Mentions f x
    told_free Yes e = absurd (cc (e))
    told_free No e = absurd (cc (e))
    told_free (One a) e = told.there a x e
    told_free (Not f) e = told_free f e
    told_free (And fs) e = told_free_in_some fs e
    told_free (Or fs) e = told_free_in_some fs e
    told_free (Impl f g) e = ⊎_elim (λ h. inl (told_free f h)) (λ h. inr (told_free g h)) (or_true _ _ e)
    told_free (Repl f g) e = ⊎_elim (λ h. inl (told_free f h)) (λ h. inr (told_free g h)) (or_true _ _ e)
    told_free (Equiv f g) e = ⊎_elim (λ h. inl (told_free f h)) (λ h. inr (told_free g h)) (or_true _ _ e)
    told_free (Ex y f) e = let h = other_true y x (is_free kit x f) e in (h.0, told_free f h.1)
    told_free (All y f) e = let h = other_true y x (is_free kit x f) e in (h.0, told_free f h.1)

    told_free_in_some : (fs : Formulas A ℕ) → is_free_in_some kit x fs ≡ true → FreeInSome Mentions fs x
    told_free_in_some none e = absurd (cc (e))
    told_free_in_some (also f fs) e = ⊎_elim (λ h. inl (told_free f h)) (λ h. inr (told_free_in_some fs h)) (or_true _ _ e)

  mutual
    pub free_told : (f : Formula A ℕ) → Free Mentions f x → is_free kit x f ≡ true
    free_told Yes h = absurd h
    free_told No h = absurd h
    free_told (One a) h = told.absent a x h
    free_told (Not f) h = free_told f h
    free_told (And fs) h = free_in_some_told fs h
    free_told (Or fs) h = free_in_some_told fs h
    free_told (Impl f g) h = true_or (is_free kit x f) (is_free kit x g) (⊎_elim (λ t. inl (free_told f t)) (λ t. inr (free_told g t)) h)
    free_told (Repl f g) h = true_or (is_free kit x f) (is_free kit x g) (⊎_elim (λ t. inl (free_told f t)) (λ t. inr (free_told g t)) h)
    free_told (Equiv f g) h = true_or (is_free kit x f) (is_free kit x g) (⊎_elim (λ t. inl (free_told f t)) (λ t. inr (free_told g t)) h)
    free_told (Ex y f) h = true_other y x (is_free kit x f) h.0 (free_told f h.1)
    free_told (All y f) h = true_other y x (is_free kit x f) h.0 (free_told f h.1)

    free_in_some_told : (fs : Formulas A ℕ) → FreeInSome Mentions fs x → is_free_in_some kit x fs ≡ true
    free_in_some_told none h = absurd h
    free_in_some_told (also f fs) h = true_or (is_free kit x f) (is_free_in_some kit x fs) (⊎_elim (λ t. inl (free_told f t)) (λ t. inr (free_in_some_told fs t)) h)

  pub not_free : (f : Formula A ℕ) → is_free kit x f ≡ false → ¬ (Free Mentions f x)
  not_free f e h = let w : true ≡ false = sym (free_told f h) ∙ e in absurd (cc (w))
