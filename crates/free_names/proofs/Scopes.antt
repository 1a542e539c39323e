-- The numbers in scope below quantifiers.
use Rattle.std.proofs.Common.{◌≡◌, ◌⊎◌, inl, inr, ⊎_elim, ℕ, List, [], ◌∷◌, ◌++◌, map, Bool, true, false, cond, ◌||◌, sym, ◌∙◌, ap, refl, subst}
use Rattle.std.proofs.lemmas.Bool.{false≢true}
use Rattle.std.specs.Ordering.{nat_cmp}
use Rattle.std.specs.BTreeMap.{is_at}
use Rattle.logic_meaning.specs.Every.{Free}
use Rattle.logic_meaning.specs.Formula.{Yes, No, One, Not, And, Or, Impl, Repl, Equiv, Ex, All}
use Rattle.logic_meaning.specs.Replaced.{replaced}
use Rattle.language_meaning.specs.Trees.{WrittenAtom, FormulaTree}
use Rattle.written_syntax.specs.Valued.{prefix_of, matrix_of}
use Rattle.written_syntax.proofs.NameOrder.{by_at}
use Rattle.written_syntax.proofs.EntryLists.{some_left, some_right, some_split, some_one}
use Rattle.free_names.specs.Scopes.{AreAmong, IsIn, IsOpened, IsClosed}
use Rattle.free_names.proofs.Lists.{Puts, put_there, put_keeps, put_only, at_same, same_at}

-- A set of numbers while those of a prefix are put in: left is what stands still before it.
pub record IsOpening (bound left : List ℕ) (old new : ℕ → Bool) (opened : List ℕ) : Type 0 where
  pub there : (n : ℕ) → IsIn n bound → (new n ≡ true) ⊎ IsIn n left
  pub within : (n : ℕ) → IsIn n left → IsIn n bound
  pub kept : (n : ℕ) → old n ≡ true → new n ≡ true
  pub no_more : (n : ℕ) → new n ≡ true → (old n ≡ true) ⊎ IsIn n opened
  pub only : (n : ℕ) → IsIn n opened → (old n ≡ false) × IsIn n bound

pub opening_start : (bound : List ℕ) (has : ℕ → Bool) → IsOpening bound bound has has []
opening_start bound has = record { there = λ n h. inr h; within = λ n h. h; kept = λ n h. h; no_more = λ n h. inl h; only = λ n h. absurd h }

pub opening_end : (bound : List ℕ) (old new : ℕ → Bool) (opened : List ℕ) → IsOpening bound [] old new opened → IsOpened bound old new opened
opening_end bound old new opened s = record { there = λ n h. ⊎_elim (λ t. t) (λ b. absurd b) (s.there n h); kept = s.kept; no_more = s.no_more; only = s.only }

-- the number was there
pub opening_known : (bound left : List ℕ) (old now new : ℕ → Bool) (opened : List ℕ) (k : ℕ) → IsOpening bound (k ∷ left) old now opened
    → now k ≡ true → Puts now new k → IsOpening bound left old new opened
opening_known bound left old now new opened k s known puts = record {
  there = λ n h. ⊎_elim (λ t. inl (put_keeps now new k puts n t)) (λ i. ⊎_elim (λ e. inl (put_there now new k puts n e)) (λ j. inr j) i) (s.there n h);
  within = λ n h. s.within n (inr h);
  kept = λ n h. put_keeps now new k puts n (s.kept n h);
  no_more = λ n h. ⊎_elim (λ t. s.no_more n t) (λ (e : k ≡ n). s.no_more n (subst (λ (m : ℕ). now m ≡ true) e known)) (put_only now new k puts n h);
  only = s.only;
}

-- the number was not there
pub opening_new : (bound left : List ℕ) (old now new : ℕ → Bool) (opened : List ℕ) (k : ℕ) → IsOpening bound (k ∷ left) old now opened
    → now k ≡ false → Puts now new k → IsOpening bound left old new (opened ++ k ∷ [])
opening_new bound left old now new opened k s absent puts = record {
  there = λ n h. ⊎_elim (λ t. inl (put_keeps now new k puts n t)) (λ i. ⊎_elim (λ e. inl (put_there now new k puts n e)) (λ j. inr j) i) (s.there n h);
  within = λ n h. s.within n (inr h);
  kept = λ n h. put_keeps now new k puts n (s.kept n h);
  no_more = λ n h.
      ⊎_elim (λ t. ⊎_elim (λ o. inl o) (λ i. inr (some_left (λ (m : ℕ). m ≡ n) opened (k ∷ []) i)) (s.no_more n t))
      (λ e. inr (some_right (λ (m : ℕ). m ≡ n) opened (k ∷ []) (inl e))) (put_only now new k puts n h);
  only = λ n h.
      ⊎_elim (λ i. s.only n i)
      (λ i.
      let e : k ≡ n = some_one (λ (m : ℕ). m ≡ n) k i in
      (subst (λ (m : ℕ). old m ≡ false) e (by_at (old k) (λ t. absurd (false≢true (sym absent ∙ s.kept k t))) (λ f. f)), s.within n (inl e)))
      (some_split (λ (m : ℕ). m ≡ n) opened (k ∷ []) h);
}

-- one number more is taken out
pub closed_more : (old now new : ℕ → Bool) (out : List ℕ) (k : ℕ) → IsClosed old now out
    → ((n : ℕ) → new n ≡ cond (is_at (nat_cmp k) n) false (now n)) → IsClosed old new (out ++ k ∷ [])
closed_more old now new out k s takes = record {
  out = λ n h.
      by_at (is_at (nat_cmp k) n)
      (λ at. absurd (false≢true (sym (takes n ∙ ap (λ b. cond b false (now n)) at) ∙ h)))
      (λ off.
      let r = s.out n (sym (ap (λ b. cond b false (now n)) off) ∙ sym (takes n) ∙ h) in
      (r.0, λ i. ⊎_elim r.1 (λ j. false≢true (sym off ∙ same_at k n (some_one (λ (m : ℕ). m ≡ n) k j))) (some_split (λ (m : ℕ). m ≡ n) out (k ∷ []) i)));
  kept = λ n h.
      ⊎_elim
      (λ t.
      by_at (is_at (nat_cmp k) n)
      (λ at. inr (some_right (λ (m : ℕ). m ≡ n) out (k ∷ []) (inl (at_same k n at))))
      (λ off. inl (takes n ∙ ap (λ b. cond b false (now n)) off ∙ t)))
      (λ i. inr (some_left (λ (m : ℕ). m ≡ n) out (k ∷ []) i)) (s.kept n h);
}

same_tests : (a b : Bool) → (a ≡ true → b ≡ true) → (b ≡ true → a ≡ true) → a ≡ b
same_tests true b f g = sym (f refl)
same_tests false true f g = g refl
same_tests false false f g = refl

-- what was put in is taken out
pub scope_kept : (bound : List ℕ) (old inside after new : ℕ → Bool) (opened : List ℕ) → IsOpened bound old inside opened
    → ((n : ℕ) → inside n ≡ after n) → IsClosed after new opened → (n : ℕ) → old n ≡ new n
scope_kept bound old inside after new opened o same c n =
    same_tests (old n) (new n)
    (λ t. ⊎_elim (λ m. m) (λ i. absurd (false≢true (sym (o.only n i).0 ∙ t))) (c.kept n (sym (same n) ∙ o.kept n t)))
    (λ m. let r = c.out n m in ⊎_elim (λ t. t) (λ i. absurd (r.1 i)) (o.no_more n (same n ∙ r.0)))

pub or_map : (a b c : Bool) → (b ≡ true → c ≡ true) → (a || b) ≡ true → (a || c) ≡ true
or_map true b c f h = refl
or_map false b c f h = f h

pub or_first : (a b : Bool) → b ≡ false → (a || b) ≡ true → a ≡ true
or_first true b e h = refl
or_first false b e h = absurd (false≢true (sym e ∙ h))

pub or_parts : (a b : Bool) → (a || b) ≡ false → (a ≡ false) × (b ≡ false)
or_parts true b h = absurd (false≢true (sym h))
or_parts false b h = (refl, h)

pub or_neither : (a b : Bool) → a ≡ false → b ≡ false → (a || b) ≡ false
or_neither true b h k = absurd (false≢true (sym h))
or_neither false b h k = k

module _ (mentions : WrittenAtom → ℕ → Type 0) (number : List ℕ → ℕ) where
  -- the free numbers are those of the matrix without those of the prefix
  pub free_in_matrix : (t : FormulaTree) (n : ℕ) → Free mentions (replaced One number t) n → (¬ (IsIn n (map number (prefix_of t)))) × Free mentions (replaced One number (matrix_of t)) n
  free_in_matrix (Ex y f) n h = let r = free_in_matrix f n h.1 in (λ i. ⊎_elim h.0 r.0 i, r.1)
  free_in_matrix (All y f) n h = let r = free_in_matrix f n h.1 in (λ i. ⊎_elim h.0 r.0 i, r.1)
  free_in_matrix Yes n h = (λ i. i, h)
  free_in_matrix No n h = (λ i. i, h)
  free_in_matrix (One a) n h = (λ i. i, h)
  free_in_matrix (Not f) n h = (λ i. i, h)
  free_in_matrix (And fs) n h = (λ i. i, h)
  free_in_matrix (Or fs) n h = (λ i. i, h)
  free_in_matrix (Impl f g) n h = (λ i. i, h)
  free_in_matrix (Repl f g) n h = (λ i. i, h)
  free_in_matrix (Equiv f g) n h = (λ i. i, h)

  pub free_outside : (t : FormulaTree) (n : ℕ) → ¬ (IsIn n (map number (prefix_of t))) → Free mentions (replaced One number (matrix_of t)) n → Free mentions (replaced One number t) n
  free_outside (Ex y f) n out h = (λ e. out (inl e), free_outside f n (λ i. out (inr i)) h)
  free_outside (All y f) n out h = (λ e. out (inl e), free_outside f n (λ i. out (inr i)) h)
  free_outside Yes n out h = h
  free_outside No n out h = h
  free_outside (One a) n out h = h
  free_outside (Not f) n out h = h
  free_outside (And fs) n out h = h
  free_outside (Or fs) n out h = h
  free_outside (Impl f g) n out h = h
  free_outside (Repl f g) n out h = h
  free_outside (Equiv f g) n out h = h

  -- the free numbers of a formula, searched in its matrix; v is a test that no quantifier changes
  pub scope_among : (t : FormulaTree) (v old inside : ℕ → Bool) (opened : List ℕ) (r : Bool) → IsOpened (map number (prefix_of t)) old inside opened
      → AreAmong (λ (n : ℕ). Free mentions (replaced One number (matrix_of t)) n) (λ n. v n || inside n) r → AreAmong (λ (n : ℕ). Free mentions (replaced One number t) n) (λ n. v n || old n) r
  scope_among t v old inside opened true o h = λ n free.
      let m = free_in_matrix t n free in
      or_map (v n) (inside n) (old n) (λ t. ⊎_elim (λ p. p) (λ i. absurd (m.0 (o.only n i).1)) (o.no_more n t)) (h n m.1)
  scope_among t v old inside opened false o h =
      let parts = or_parts (v h.0) (inside h.0) h.2 in
      let absent : old h.0 ≡ false = by_at (old h.0) (λ p. absurd (false≢true (sym parts.1 ∙ o.kept h.0 p))) (λ f. f) in
      (h.0, free_outside t h.0 (λ i. false≢true (sym parts.1 ∙ o.there h.0 i)) h.1, or_neither (v h.0) (old h.0) parts.0 absent)

-- a search in an equal set
pub among_same : (P : ℕ → Type 0) (v old new : ℕ → Bool) (r : Bool) → ((n : ℕ) → old n ≡ new n) → AreAmong P (λ n. v n || new n) r → AreAmong P (λ n. v n || old n) r
among_same P v old new true same h = λ n p. ap (λ b. v n || b) (same n) ∙ h n p
among_same P v old new false same h = (h.0, h.1, ap (λ b. v h.0 || b) (same h.0) ∙ h.2)
