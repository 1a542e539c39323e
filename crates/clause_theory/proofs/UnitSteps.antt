-- Unit steps: what fails where the clauses hold and some literals fail.
use Rattle.std.proofs.Common.{◌≡◌, ℕ, zero, suc, Bool, true, false, not, List, [], ◌∷◌, Option, Some, set, ap, sym, ◌∙◌, subst, refl, ⊎_elim, ◌⊎◌, inl, inr, slice_get}
use Rattle.logic_meaning.specs.Context.{Context}
use Rattle.logic_meaning.specs.Point.{Point}
use Rattle.logic_meaning.specs.Some.{EachOf}
use Rattle.logic_meaning.specs.Tree.{Tree, TrueAt}
use Rattle.clause_theory.specs.declared.clause.Literal.{Literal}
use Rattle.clause_theory.specs.declared.clause.Clause.{Clause}
use Rattle.clause_theory.specs.declared.failing.Left.TheVariants.{Nothing, One}
use Rattle.clause_theory.specs.Turned.{turned}
use Rattle.clause_theory.specs.Clauses.{IsNot, Fails, Implies, FailsWith}
use Rattle.clause_theory.specs.Marks.{IsMarked, Leaves, AreSound}
use Rattle.clause_theory.proofs.Marked.{each_of, IsMarkedOr}

-- ---- the opposite

turned_not : (b : Bool) (P : Type 0) → ¬ (IsNot b P) → IsNot (not b) P
turned_not true P n = n
turned_not false P n = λ h. n (λ k. k h)

-- a literal that does not fail: its opposite does
pub turned_fails : (f : ℕ → Tree) (c : Context) (p : Point ℕ) (l : Literal) → ¬ (Fails f c p l) → Fails f c p (turned l)
turned_fails f c p l = turned_not l.holds (TrueAt c (f l.variable) p)

-- ---- one mark more

-- a mark that is there after another is put is that, or was there
mark_after : (signs : List (Option Bool)) (v w : ℕ) (a b : Bool) → slice_get (set signs v (Some a)) w ≡ Some (Some b) → ((w ≡ v) × (a ≡ b)) ⊎ (slice_get signs w ≡ Some (Some b))
mark_after [] v w a b e = inr e
mark_after (s ∷ signs) zero zero a b e = let same : a ≡ b = cc in inl (refl, same)
mark_after (s ∷ signs) zero (suc w) a b e = inr e
mark_after (s ∷ signs) (suc v) zero a b e = inr e
mark_after (s ∷ signs) (suc v) (suc w) a b e = ⊎_elim (λ h. inl (ap (λ n. suc n) h.0, h.1)) (λ h. inr h) (mark_after signs v w a b e)

same_literal : (m l : Literal) → l.variable ≡ m.variable → m.holds ≡ l.holds → m ≡ l
same_literal m l v h =
    let e : m ≡ record { variable = l.variable; holds = m.holds } = ap (λ (n : ℕ). record { variable = n; holds = m.holds }) (sym v) in
    let e2 : record { variable = l.variable; holds = m.holds } ≡ l = ap (λ (b : Bool). record { variable = l.variable; holds = b }) h in
    e ∙ e2

module _ (clauses : List Clause) (ls : List Literal) where
  pub mark_more : (signs : List (Option Bool)) (m : Literal) → AreSound clauses ls signs → FailsWith clauses ls m → AreSound clauses ls (set signs m.variable (Some m.holds))
  mark_more signs m before fails l marked =
      ⊎_elim
      (λ h. subst (FailsWith clauses ls) (same_literal m l h.0 h.1) fails)
      (λ h. before l h)
      (mark_after signs m.variable l.variable m.holds l.holds marked)

  -- ---- one clause more

  module _ (signs : List (Option Bool)) (sound : AreSound clauses ls signs) (i : ℕ) (k : Clause) (there : slice_get clauses i ≡ Some k) where
    -- a clause with one literal left: its opposite fails
    pub one_left : (m : Literal) → Leaves signs (One m) k.literals.items → FailsWith clauses ls (turned m)
    one_left m left f c p hold fail =
        turned_fails f c p m (λ here.
        hold i k there (each_of (IsMarkedOr signs m) (Fails f c p) k.literals.items
        (λ l. ⊎_elim (λ marked. sound l marked f c p hold fail) (λ same. subst (Fails f c p) (sym same) here)) left))

    -- a clause with none left: the literals do not all fail
    pub nothing_left : Leaves signs Nothing k.literals.items → Implies clauses ls
    nothing_left left f c p hold fail = hold i k there (each_of (IsMarked signs) (Fails f c p) k.literals.items (λ l marked. sound l marked f c p hold fail) left)

-- ---- the literals themselves

pub each_at : {X : Type 0} (P : X → Type 0) (xs : List X) (i : ℕ) (x : X) → EachOf P xs → slice_get xs i ≡ Some x → P x
each_at P [] i x each e = absurd cc
each_at P (y ∷ xs) zero x each e = let same : y ≡ x = cc in subst P same each.0
each_at P (y ∷ xs) (suc i) x each e = each_at P xs i x each.1 e
