-- A block of ex is true exactly where its formula is true somewhere: the order of its names does not matter.
use Rattle.std.proofs.Common.{◌≡◌, ℕ, [], ◌∷◌, ap, sym, ◌∙◌, subst, refl, inl, inr, ⊎_elim, ◌⊎◌, ◌↔◌, nat_eq}
use Rattle.std.proofs.Math.IntN.{ℤ, pos, ◌*ℤ◌}
use Rattle.std.specs.Prelude.{◌<ℤ◌}
use Rattle.std.proofs.lemmas.Bool.{cases_eq}
use Rattle.exact_numbers.proofs.Ring.{mul_comm, mul_assoc, mul_left_comm}
use Rattle.exact_numbers.proofs.Order.{cancel_positive}
use Rattle.logic_meaning.specs.Context.{Context, Allowed}
use Rattle.logic_meaning.specs.Point.{Point, Of, move}
use Rattle.logic_meaning.specs.Formula.{Ex}
use Rattle.logic_meaning.specs.Some.{Among}
use Rattle.logic_meaning.specs.Tree.{Tree, TrueAt}
use Rattle.formula_laws.proofs.TreeFiner.{allowed_positive, tree_same_point}
use Rattle.formula_laws.proofs.TreeReplacing.{moved_of}
use Rattle.formula_laws.proofs.Equivalence.{absent_moved}
use Rattle.elimination_theory.proofs.PutIn.{of_allowed}
use Rattle.case_theory.specs.Block.{SameValue, DifferIn, Somewhere, BlockHasNoOrder}
use Rattle.case_theory.proofs.Moved.{moved_here, moved_there, moved_below, exists_here}

-- ---- products

through : (a b u m q : ℤ) → pos 0 <ℤ m → a *ℤ (b *ℤ m) ≡ (m *ℤ u) *ℤ q → a *ℤ b ≡ u *ℤ q
through a b u m q h e = cancel_positive m h (mul_left_comm m a b ∙ ap (λ z. a *ℤ z) (mul_comm m b) ∙ e ∙ mul_assoc m u q)

along : (a b u m q : ℤ) → a *ℤ b ≡ u *ℤ q → (m *ℤ a) *ℤ b ≡ u *ℤ (q *ℤ m)
along a b u m q e = mul_assoc m a b ∙ ap (λ z. m *ℤ z) e ∙ mul_left_comm m u q ∙ ap (λ z. u *ℤ z) (mul_comm m q)

-- ---- points that differ in some names

differ_more : (P Q : ℕ → Type 0) (p q : Point ℕ) → ((y : ℕ) → P y → Q y) → DifferIn P p q → DifferIn Q p q
differ_more P Q p q h d = record { elsewhere = λ y n. d.elsewhere y (λ t. n (h y t)) }

pub somewhere_more : (c : Context) (P Q : ℕ → Type 0) (f : Tree) (p : Point ℕ) → ((y : ℕ) → P y → Q y) → Somewhere c P f p → Somewhere c Q f p
somewhere_more c P Q f p h s = (s.0, s.1, differ_more P Q p s.0 h s.2, s.3)

-- to true here from true at a point with the same value of each name
pub somewhere_nowhere : (c : Context) (f : Tree) (p : Point ℕ) → Of c p → Somewhere c (Among []) f p ↔ TrueAt c f p
somewhere_nowhere c f p o = (
  λ s. (tree_same_point c f s.0 p s.1 o (record { same_value = λ y. s.2.elsewhere y (λ t. t) })).0 s.3,
  λ t. (p, o, record { elsewhere = λ y n. refl }, t),
)

module _ (P : ℕ → Type 0) (x : ℕ) where
  -- P, and x
  abbrev With : ℕ → Type 0
  With y = (x ≡ y) ⊎ P y

  -- P without x
  abbrev Without : ℕ → Type 0
  Without y = ¬ (x ≡ y) × P y

  module _ (c : Context) (p q : Point ℕ) where
    -- from a move of x, and further
    after_move : (k : ℤ) (m : ℕ) → pos 0 <ℤ pos m → DifferIn P (move nat_eq p x k m) q → DifferIn With p q
    after_move k m h d = record {
      elsewhere = λ y n.
          let e = d.elsewhere y (λ t. n (inr t)) in
          through (q.at y) (pos p.below) (p.at y) (pos m) (pos q.below) h
          (ap (λ z. q.at y *ℤ z) (sym (moved_below p x k m)) ∙ e ∙ ap (λ z. z *ℤ pos q.below) (moved_there p x k m y (λ i. n (inl i))));
    }

    -- p with q's value of x
    before_move : DifferIn With p q → DifferIn P (move nat_eq p x (q.at x *ℤ pos p.below) q.below) q
    before_move d = record { elsewhere = λ y n. elim (cases_eq x y) [ inl i ↦ subst (SameValue q (move nat_eq p x (q.at x *ℤ pos p.below) q.below)) i here | inr u ↦ there y u n ] }
      where
        here : SameValue q (move nat_eq p x (q.at x *ℤ pos p.below) q.below) x
        here =
            ap (λ z. q.at x *ℤ z) (moved_below p x (q.at x *ℤ pos p.below) q.below) ∙ sym (mul_assoc (q.at x) (pos p.below) (pos q.below))
            ∙ ap (λ z. z *ℤ pos q.below) (sym (moved_here p x (q.at x *ℤ pos p.below) q.below))

        there : (y : ℕ) → ¬ (x ≡ y) → ¬ (P y) → SameValue q (move nat_eq p x (q.at x *ℤ pos p.below) q.below) y
        there y u n =
            let e = d.elsewhere y (⊎_elim u n) in
            ap (λ z. q.at y *ℤ z) (moved_below p x (q.at x *ℤ pos p.below) q.below)
            ∙ sym (mul_assoc (q.at y) (pos p.below) (pos q.below)) ∙ ap (λ z. z *ℤ pos q.below) (e ∙ mul_comm (p.at y) (pos q.below))
            ∙ ap (λ z. z *ℤ pos q.below) (sym (moved_there p x (q.at x *ℤ pos p.below) q.below y u))

    -- q with p's value of x
    brought_back : DifferIn P p q → DifferIn Without p (move nat_eq q x (p.at x *ℤ pos q.below) p.below)
    brought_back d = record { elsewhere = λ y n. elim (cases_eq x y) [ inl i ↦ subst (SameValue (move nat_eq q x (p.at x *ℤ pos q.below) p.below) p) i here | inr u ↦ there y u (λ t. n (u, t)) ] }
      where
        here : SameValue (move nat_eq q x (p.at x *ℤ pos q.below) p.below) p x
        here =
            ap (λ z. z *ℤ pos p.below) (moved_here q x (p.at x *ℤ pos q.below) p.below) ∙ mul_assoc (p.at x) (pos q.below) (pos p.below)
            ∙ ap (λ z. p.at x *ℤ z) (sym (moved_below q x (p.at x *ℤ pos q.below) p.below))

        there : (y : ℕ) → ¬ (x ≡ y) → ¬ (P y) → SameValue (move nat_eq q x (p.at x *ℤ pos q.below) p.below) p y
        there y u n =
            ap (λ z. z *ℤ pos p.below) (moved_there q x (p.at x *ℤ pos q.below) p.below y u)
            ∙ along (q.at y) (pos p.below) (p.at y) (pos p.below) (pos q.below) (d.elsewhere y n)
            ∙ ap (λ z. p.at y *ℤ z) (sym (moved_below q x (p.at x *ℤ pos q.below) p.below))

    -- q moved at x
    moved_on : (k : ℤ) (m : ℕ) → P x → DifferIn Without p q → DifferIn P p (move nat_eq q x k m)
    moved_on k m h d = record {
      elsewhere = λ y n.
          let u : ¬ (x ≡ y) = λ e. n (subst P e h) in
          ap (λ z. z *ℤ pos p.below) (moved_there q x k m y u) ∙ along (q.at y) (pos p.below) (p.at y) (pos m) (pos q.below) (d.elsewhere y (λ t. n t.1))
          ∙ ap (λ z. p.at y *ℤ z) (sym (moved_below q x k m));
    }

-- ---- the block

pub block_somewhere : (c : Context) → BlockHasNoOrder c
block_somewhere c [] f p o = let e = somewhere_nowhere c f p o in (e.1, e.0)
block_somewhere c (x ∷ xs) f p o = (
  λ t.
      let s = (block_somewhere c xs f (move nat_eq p x t.0 t.1) (moved_of c p x t.0 t.1 o t.2)).0 t.3 in
      (s.0, s.1, after_move (Among xs) x c p s.0 t.0 t.1 (allowed_positive c t.1 t.2) s.2, s.3),
  λ s.
      let a : Allowed c s.0.below = of_allowed c s.0 s.1 in
      let k = s.0.at x *ℤ pos p.below in
      (k, s.0.below, a, (block_somewhere c xs f (move nat_eq p x k s.0.below) (moved_of c p x k s.0.below o a)).1 (s.0, s.1, before_move (Among xs) x c p s.0 s.2, s.3)),
)

-- a name of the names that may move, taken out: it is quantified instead
pub one_taken : (c : Context) (P : ℕ → Type 0) (x : ℕ) (f : Tree) (p : Point ℕ) → Of c p → P x → Somewhere c P f p ↔ Somewhere c (λ y. ¬ (x ≡ y) × P y) (Ex x f) p
one_taken c P x f p o h = (
  λ s.
      let k = p.at x *ℤ pos s.0.below in
      let a : Allowed c p.below = of_allowed c p o in (
        move nat_eq s.0 x k p.below,
        moved_of c s.0 x k p.below s.1 a,
        brought_back P x c p s.0 s.2,
        (absent_moved c (Ex x f) s.0 x k p.below (λ t. t.0 refl) a).0 (exists_here c x f s.0 s.1 s.3),
      ),
  λ s. (move nat_eq s.0 x s.3.0 s.3.1, moved_of c s.0 x s.3.0 s.3.1 s.1 s.3.2, moved_on P x c p s.0 s.3.0 s.3.1 h s.2, s.3.3),
)
