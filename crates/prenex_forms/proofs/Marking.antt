-- Names that are marked by one formula after another.
use Rattle.std.proofs.Common.{◌≡◌, ◌⊎◌, inl, inr, ⊎_elim, ◌↔◌, ℕ, zero, suc, ◌<◌, ◌≤◌, Bool, true, false, List, [], ◌∷◌, Some, length, take, refl, sym, ap, ◌∙◌, subst, get_or, arith}
use Rattle.std.specs.Prelude.{slice_get, slice_set}
use Rattle.std.proofs.lemmas.Bool.{cases_eq, false≢true}
use Rattle.std.proofs.lemmas.List.{get_or-set_same, get_or-set_other, set-set, set-get_or, length-set}
use Rattle.std.proofs.lemmas.Option.{unwrap_or-slice_get}
use Rattle.logic_meaning.specs.Shape.{quantified}
use Rattle.logic_meaning.specs.declared.quantifier.Quantifier.TheVariants.{Exists, ForAll}
use Rattle.logic_meaning.specs.Form.{Term}
use Rattle.logic_meaning.specs.Some.{Among}
use Rattle.logic_meaning.specs.Tree.{Tree, IsFree}
use Rattle.logic_meaning.specs.declared.quantifier.Quantifier.{Quantifier}
use Rattle.shape_theory.proofs.NamedAtoms.{names_of}
use Rattle.prenex_forms.specs.Chosen.{flag}
use Rattle.prenex_forms.specs.Marks.{Marks}

-- no name has the property
pub marks_nothing : (h a : List Bool) (P : ℕ → Type 0) → ((x : ℕ) → ¬ (P x)) → Marks h a P a
marks_nothing h a P none = record { same = refl; each = λ x l. (λ k. inl k, λ k. ⊎_elim (λ o. o) (λ p. absurd (none x p.0)) k) }

-- the property says the same in other words
pub marks_as : (h a b : List Bool) (P Q : ℕ → Type 0) → ((x : ℕ) → P x ↔ Q x) → Marks h a P b → Marks h a Q b
marks_as h a b P Q e m = record {
  same = m.same;
  each = λ x l.
      let i = m.each x l in
      (λ k. ⊎_elim inl (λ p. inr ((e x).0 p.0, p.1)) (i.0 k), λ k. i.1 (⊎_elim inl (λ p. inr ((e x).1 p.0, p.1)) k));
}

-- one after the other
pub marks_both : (h a b c : List Bool) (P Q : ℕ → Type 0) → Marks h a P b → Marks h b Q c → Marks h a (λ x. P x ⊎ Q x) c
marks_both h a b c P Q m n = record {
  same = n.same ∙ m.same;
  each = λ x l.
      let i = m.each x l in
      let j = n.each x (subst (λ k. x < k) (sym m.same) l) in (
        λ k. ⊎_elim (λ o. ⊎_elim inl (λ p. inr (inl p.0, p.1)) (i.0 o)) (λ q. inr (inr q.0, q.1)) (j.0 k),
        λ k. j.1 (⊎_elim (λ o. inl (i.1 (inl o))) (λ r. ⊎_elim (λ p. inl (i.1 (inr (p, r.1)))) (λ q. inr (q, r.1)) r.0) k),
      );
}

-- ---- a hidden name

flag_is : (h : List Bool) (x : ℕ) → flag h x ≡ get_or h x false
flag_is h x = unwrap_or-slice_get h x false

flag_hidden : (h : List Bool) (n x : ℕ) → n ≡ x → x < length h → flag (slice_set h n true) x ≡ true
flag_hidden h n x e l = flag_is (slice_set h n true) x ∙ ap (λ k. get_or (slice_set h k true) x false) e ∙ get_or-set_same h x true false l

flag_other : (h : List Bool) (n x : ℕ) → ¬ (n ≡ x) → flag (slice_set h n true) x ≡ flag h x
flag_other h n x d = flag_is (slice_set h n true) x ∙ get_or-set_other h n x true false (λ e. d (sym e)) ∙ sym (flag_is h x)

pub marks_behind : (h a b : List Bool) (n : ℕ) (P : ℕ → Type 0) → length h ≡ length a → Marks (slice_set h n true) a P b → Marks h a (λ x. (¬ (n ≡ x)) × P x) b
marks_behind h a b n P e m = record { same = m.same; each = λ x l. one x l (m.each x l) (cases_eq n x) }
  where
    one : (x : ℕ) → x < length a → (flag b x ≡ true) ↔ ((flag a x ≡ true) ⊎ (P x × (flag (slice_set h n true) x ≡ false))) → (n ≡ x) ⊎ (¬ (n ≡ x))
        → (flag b x ≡ true) ↔ ((flag a x ≡ true) ⊎ (((¬ (n ≡ x)) × P x) × (flag h x ≡ false)))
    one x l i (inl k) = (
      λ t. ⊎_elim inl (λ p. absurd (false≢true (sym p.1 ∙ flag_hidden h n x k (subst (λ z. x < z) (sym e) l)))) (i.0 t),
      λ t. ⊎_elim (λ o. i.1 (inl o)) (λ p. absurd (p.0.0 k)) t,
    )
    one x l i (inr d) =
        let s = flag_other h n x d in
        (λ t. ⊎_elim inl (λ p. inr ((d, p.0), sym s ∙ p.1)) (i.0 t), λ t. i.1 (⊎_elim inl (λ p. inr (p.0.1, s ∙ p.1)) t))

-- it is put back
pub shown_again : (h k : List Bool) (n : ℕ) → k ≡ slice_set h n true → slice_set k n (flag h n) ≡ h
shown_again h k n e = ap (λ b. slice_set k n b) (flag_is h n) ∙ ap (λ xs. slice_set xs n (get_or h n false)) e ∙ set-set h n true (get_or h n false) ∙ set-get_or h n false

-- ---- formulas and forms

pub quantified_marks : (q : Quantifier) (n : ℕ) (f : Tree) (h a b : List Bool) → Marks h a (λ x. (¬ (n ≡ x)) × IsFree f x) b → Marks h a (IsFree (quantified q n f)) b
quantified_marks Exists n f h a b m = m
quantified_marks ForAll n f h a b m = m

-- one name more
module _ (h a m : List Bool) (n : ℕ) (P Q : ℕ → Type 0) (more : (x : ℕ) → Q x ↔ (P x ⊎ (n ≡ x))) (e : length h ≡ length a) (before : Marks h a P m) where
  pub mark_put : n < length h → flag h n ≡ false → Marks h a Q (slice_set m n true)
  mark_put l shown = record { same = length-set m n true ∙ before.same; each = λ x k. one x k (before.each x k) (cases_eq n x) }
    where
      one : (x : ℕ) → x < length a → (flag m x ≡ true) ↔ ((flag a x ≡ true) ⊎ (P x × (flag h x ≡ false))) → (n ≡ x) ⊎ (¬ (n ≡ x))
          → (flag (slice_set m n true) x ≡ true) ↔ ((flag a x ≡ true) ⊎ (Q x × (flag h x ≡ false)))
      one x k i (inl s) = (
        λ t. inr ((more x).1 (inr s), subst (λ z. flag h z ≡ false) s shown),
        λ t. flag_hidden m n x s (subst (λ z. x < z) (sym before.same) k),
      )
      one x k i (inr d) =
          let other = flag_other m n x d in
          (λ t. ⊎_elim inl (λ p. inr ((more x).1 (inl p.0), p.1)) (i.0 (sym other ∙ t)), λ t. other ∙ i.1 (⊎_elim inl (λ q. ⊎_elim (λ p. inr (p, q.1)) (λ s. absurd (d s)) ((more x).0 q.0)) t))

  pub mark_skip : ¬ ((n < length h) × (flag h n ≡ false)) → Marks h a Q m
  mark_skip hid = record { same = before.same; each = λ x k. one x k (before.each x k) }
    where
      one : (x : ℕ) → x < length a → (flag m x ≡ true) ↔ ((flag a x ≡ true) ⊎ (P x × (flag h x ≡ false))) → (flag m x ≡ true) ↔ ((flag a x ≡ true) ⊎ (Q x × (flag h x ≡ false)))
      one x k i = (
        λ t. ⊎_elim inl (λ p. inr ((more x).1 (inl p.0), p.1)) (i.0 t),
        λ t. i.1 (⊎_elim inl (λ q. ⊎_elim (λ p. inr (p, q.1)) (λ s. absurd (hid (subst (λ z. z < length h) (sym s) (subst (λ z. x < z) (sym e) k), subst (λ z. flag h z ≡ false) (sym s) q.1))) ((more x).0 q.0)) t),
      )

pub names_more : (i : ℕ) (ts : List Term) (t : Term) → slice_get ts i ≡ Some t → (x : ℕ) → Among (names_of (take (suc i) ts)) x ↔ (Among (names_of (take i ts)) x ⊎ (t.name ≡ x))
names_more zero [] t e x = absurd (cc)
names_more (suc i) [] t e x = absurd (cc)
names_more zero (u ∷ us) t e x =
    let same : u ≡ t = cc in
    (λ k. ⊎_elim (λ p. inr (sym (ap (λ (v : Term). v.name) same) ∙ p)) absurd k, λ k. ⊎_elim absurd (λ p. inl (ap (λ (v : Term). v.name) same ∙ p)) k)
names_more (suc i) (u ∷ us) t e x =
    let r = names_more i us t e x in (
      λ k. ⊎_elim (λ p. inl (inl p)) (λ q. ⊎_elim (λ o. inl (inr o)) inr (r.0 q)) k,
      λ k. ⊎_elim (λ q. ⊎_elim inl (λ o. inr (r.1 (inl o))) q) (λ p. inr (r.1 (inr p))) k,
    )

pub take_whole : (i : ℕ) (ts : List Term) → length ts ≤ i → take i ts ≡ ts
take_whole zero [] h = refl
take_whole (suc i) [] h = refl
take_whole zero (t ∷ ts) h = absurd (omega arith)
take_whole (suc i) (t ∷ ts) h = ap (λ us. t ∷ us) (take_whole i ts (omega arith))
