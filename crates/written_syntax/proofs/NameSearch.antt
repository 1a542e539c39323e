-- A search for a name that a test does not pass, along the members of a list and below quantifiers.
use Rattle.std.proofs.Common.{◌≡◌, ◌⊎◌, inl, inr, ⊎_elim, ℕ, List, [], ◌∷◌, ◌++◌, Bool, true, false, cond, not, ◌&&◌, sym, ◌∙◌, ap, refl, subst}
use Rattle.std.proofs.lemmas.Bool.{false≢true}
use Rattle.std.specs.Ordering.{nat_cmp}
use Rattle.std.specs.Cmp.Lexicographic.{slice_cmp}
use Rattle.std.specs.BTreeMap.{is_at}
use Rattle.language_meaning.specs.Trees.{FormulaTree}
use Rattle.written_syntax.specs.FreeNames.{IsFree}
use Rattle.written_syntax.specs.Valued.{AreAmong, IsIn, prefix_of, matrix_of, IsOpened, IsClosed}
use Rattle.written_syntax.proofs.NameOrder.{by_at, at_same, same_at}
use Rattle.written_syntax.proofs.EntryLists.{some_left, some_right, some_split, some_one}
use Rattle.written_syntax.proofs.Quantified.{free_in_matrix, free_outside}

-- How far the search has come: each name of all is one of the rest or passes the test.
pub record SearchedTo (all rest : List ℕ → Type 0) (has : List ℕ → Bool) : Type 0 where
  pub found : (x : List ℕ) → rest x → all x
  pub left : (x : List ℕ) → all x → rest x ⊎ (has x ≡ true)

pub search_start : (all : List ℕ → Type 0) (has : List ℕ → Bool) → SearchedTo all all has
search_start all has = record { found = λ x h. h; left = λ x h. inl h }

pub search_more : (all here rest : List ℕ → Type 0) (has : List ℕ → Bool) → SearchedTo all (λ x. here x ⊎ rest x) has
    → ((x : List ℕ) → here x → has x ≡ true) → SearchedTo all rest has
search_more all here rest has s passes = record {
  found = λ x h. s.found x (inr h);
  left = λ x h. ⊎_elim (λ p. ⊎_elim (λ q. inr (passes x q)) (λ r. inl r) p) (λ t. inr t) (s.left x h);
}

pub search_end : (all : List ℕ → Type 0) (has : List ℕ → Bool) → SearchedTo all (λ x. ⊥) has → (x : List ℕ) → all x → has x ≡ true
search_end all has s x h = ⊎_elim (λ b. absurd b) (λ t. t) (s.left x h)

-- ---- scopes

-- A set of names while the names of a prefix are put in: left is what stands still before it.
pub record IsOpening (bound left : List (List ℕ)) (old new : List ℕ → Bool) (opened : List (List ℕ)) : Type 0 where
  pub there : (x : List ℕ) → IsIn x bound → (new x ≡ true) ⊎ IsIn x left
  pub within : (x : List ℕ) → IsIn x left → IsIn x bound
  pub kept : (x : List ℕ) → old x ≡ true → new x ≡ true
  pub no_more : (x : List ℕ) → new x ≡ true → (old x ≡ true) ⊎ IsIn x opened
  pub only : (x : List ℕ) → IsIn x opened → (old x ≡ false) × IsIn x bound

pub opening_start : (bound : List (List ℕ)) (has : List ℕ → Bool) → IsOpening bound bound has has []
opening_start bound has = record { there = λ x h. inr h; within = λ x h. h; kept = λ x h. h; no_more = λ x h. inl h; only = λ x h. absurd h }

pub opening_end : (bound : List (List ℕ)) (old new : List ℕ → Bool) (opened : List (List ℕ)) → IsOpening bound [] old new opened → IsOpened bound old new opened
opening_end bound old new opened s = record { there = λ x h. ⊎_elim (λ t. t) (λ b. absurd b) (s.there x h); kept = s.kept; no_more = s.no_more; only = s.only }

-- one name is put in
abbrev Puts : (List ℕ → Bool) → (List ℕ → Bool) → List ℕ → Type 0
Puts now new name = (x : List ℕ) → new x ≡ cond (is_at (slice_cmp nat_cmp name) x) true (now x)

put_there : (now new : List ℕ → Bool) (name : List ℕ) → Puts now new name → (x : List ℕ) → name ≡ x → new x ≡ true
put_there now new name puts x e = puts x ∙ ap (λ b. cond b true (now x)) (same_at name x e)

put_keeps : (now new : List ℕ → Bool) (name : List ℕ) → Puts now new name → (x : List ℕ) → now x ≡ true → new x ≡ true
put_keeps now new name puts x h =
    by_at (is_at (slice_cmp nat_cmp name) x) (λ at. put_there now new name puts x (at_same name x at)) (λ off. puts x ∙ ap (λ b. cond b true (now x)) off ∙ h)

put_only : (now new : List ℕ → Bool) (name : List ℕ) → Puts now new name → (x : List ℕ) → new x ≡ true → (now x ≡ true) ⊎ (name ≡ x)
put_only now new name puts x h =
    by_at (is_at (slice_cmp nat_cmp name) x) (λ at. inr (at_same name x at)) (λ off. inl (sym (ap (λ b. cond b true (now x)) off) ∙ sym (puts x) ∙ h))

-- the name was there
pub opening_known : (bound left : List (List ℕ)) (old now new : List ℕ → Bool) (opened : List (List ℕ)) (name : List ℕ) → IsOpening bound (name ∷ left) old now opened
    → now name ≡ true → Puts now new name → IsOpening bound left old new opened
opening_known bound left old now new opened name s known puts = record {
  there = λ x h. ⊎_elim (λ t. inl (put_keeps now new name puts x t)) (λ i. ⊎_elim (λ e. inl (put_there now new name puts x e)) (λ j. inr j) i) (s.there x h);
  within = λ x h. s.within x (inr h);
  kept = λ x h. put_keeps now new name puts x (s.kept x h);
  no_more = λ x h. ⊎_elim (λ t. s.no_more x t) (λ (e : name ≡ x). s.no_more x (subst (λ (y : List ℕ). now y ≡ true) e known)) (put_only now new name puts x h);
  only = s.only;
}

-- the name was not there
pub opening_new : (bound left : List (List ℕ)) (old now new : List ℕ → Bool) (opened : List (List ℕ)) (name : List ℕ) → IsOpening bound (name ∷ left) old now opened
    → now name ≡ false → Puts now new name → IsOpening bound left old new (opened ++ name ∷ [])
opening_new bound left old now new opened name s absent puts = record {
  there = λ x h. ⊎_elim (λ t. inl (put_keeps now new name puts x t)) (λ i. ⊎_elim (λ e. inl (put_there now new name puts x e)) (λ j. inr j) i) (s.there x h);
  within = λ x h. s.within x (inr h);
  kept = λ x h. put_keeps now new name puts x (s.kept x h);
  no_more = λ x h.
      ⊎_elim (λ t. ⊎_elim (λ o. inl o) (λ i. inr (some_left (λ (y : List ℕ). y ≡ x) opened (name ∷ []) i)) (s.no_more x t))
      (λ e. inr (some_right (λ (y : List ℕ). y ≡ x) opened (name ∷ []) (inl e))) (put_only now new name puts x h);
  only = λ x h.
      ⊎_elim (λ i. s.only x i)
      (λ i.
      let e : name ≡ x = some_one (λ (y : List ℕ). y ≡ x) name i in
      (subst (λ (y : List ℕ). old y ≡ false) e (by_at (old name) (λ t. absurd (false≢true (sym absent ∙ s.kept name t))) (λ f. f)), s.within x (inl e)))
      (some_split (λ (y : List ℕ). y ≡ x) opened (name ∷ []) h);
}

-- what a set answers for a name that is put in
pub was_absent : (added before : Bool) → added ≡ not before → added ≡ true → before ≡ false
was_absent added true e h = absurd (false≢true (sym e ∙ h))
was_absent added false e h = refl

pub was_known : (added before : Bool) → added ≡ not before → added ≡ false → before ≡ true
was_known added true e h = refl
was_known added false e h = absurd (false≢true (sym h ∙ e))

-- one name more is taken out
pub closed_more : (old now new : List ℕ → Bool) (out : List (List ℕ)) (name : List ℕ) → IsClosed old now out
    → ((x : List ℕ) → new x ≡ cond (is_at (slice_cmp nat_cmp name) x) false (now x)) → IsClosed old new (out ++ name ∷ [])
closed_more old now new out name s takes = record {
  out = λ x h.
      by_at (is_at (slice_cmp nat_cmp name) x)
      (λ at. absurd (false≢true (sym (takes x ∙ ap (λ b. cond b false (now x)) at) ∙ h)))
      (λ off.
      let r = s.out x (sym (ap (λ b. cond b false (now x)) off) ∙ sym (takes x) ∙ h) in
      (r.0, λ i. ⊎_elim r.1 (λ j. false≢true (sym off ∙ same_at name x (some_one (λ (y : List ℕ). y ≡ x) name j))) (some_split (λ (y : List ℕ). y ≡ x) out (name ∷ []) i)));
  kept = λ x h.
      ⊎_elim
      (λ t.
      by_at (is_at (slice_cmp nat_cmp name) x)
      (λ at. inr (some_right (λ (y : List ℕ). y ≡ x) out (name ∷ []) (inl (at_same name x at))))
      (λ off. inl (takes x ∙ ap (λ b. cond b false (now x)) off ∙ t)))
      (λ i. inr (some_left (λ (y : List ℕ). y ≡ x) out (name ∷ []) i)) (s.kept x h);
}

same_tests : (a b : Bool) → (a ≡ true → b ≡ true) → (b ≡ true → a ≡ true) → a ≡ b
same_tests true b f g = sym (f refl)
same_tests false true f g = g refl
same_tests false false f g = refl

-- what was put in is taken out
pub scope_kept : (bound : List (List ℕ)) (old inside after new : List ℕ → Bool) (opened : List (List ℕ)) → IsOpened bound old inside opened
    → ((x : List ℕ) → inside x ≡ after x) → IsClosed after new opened → (x : List ℕ) → old x ≡ new x
scope_kept bound old inside after new opened o same c x =
    same_tests (old x) (new x)
    (λ t. ⊎_elim (λ n. n) (λ i. absurd (false≢true (sym (o.only x i).0 ∙ t))) (c.kept x (sym (same x) ∙ o.kept x t)))
    (λ n. let r = c.out x n in ⊎_elim (λ t. t) (λ i. absurd (r.1 i)) (o.no_more x (same x ∙ r.0)))

-- the free names of a formula, searched in its matrix
pub scope_among : (t : FormulaTree) (old inside : List ℕ → Bool) (opened : List (List ℕ)) (r : Bool) → IsOpened (prefix_of t) old inside opened
    → AreAmong (IsFree (matrix_of t)) inside r → AreAmong (IsFree t) old r
scope_among t old inside opened true o h = λ x free.
    let m = free_in_matrix t x free in
    ⊎_elim (λ p. p) (λ i. absurd (m.0 (o.only x i).1)) (o.no_more x (h x m.1))
scope_among t old inside opened false o h =
    let absent : old h.0 ≡ false = by_at (old h.0) (λ p. absurd (false≢true (sym h.2 ∙ o.kept h.0 p))) (λ f. f) in
    (h.0, free_outside t h.0 (λ i. false≢true (sym h.2 ∙ o.there h.0 i)) h.1, absent)

-- a search in an equal set
pub among_same : (P : List ℕ → Type 0) (old new : List ℕ → Bool) (r : Bool) → ((x : List ℕ) → old x ≡ new x) → AreAmong P new r → AreAmong P old r
among_same P old new true same h = λ x p. same x ∙ h x p
among_same P old new false same h = (h.0, h.1, same h.0 ∙ h.2)

-- two searches
pub among_both : (P Q : List ℕ → Type 0) (has : List ℕ → Bool) (r s : Bool) → AreAmong P has r → AreAmong Q has s → AreAmong (λ x. P x ⊎ Q x) has (r && s)
among_both P Q has true true h k = λ x e. ⊎_elim (λ p. h x p) (λ q. k x q) e
among_both P Q has true false h k = (k.0, inr k.1, k.2)
among_both P Q has false s h k = (h.0, inl h.1, h.2)
