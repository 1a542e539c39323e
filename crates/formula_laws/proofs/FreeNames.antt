-- Truth depends on the free names alone.
use Rattle.std.proofs.Common.{◌≡◌, ℕ, zero, suc, ◌*◌, ◌≤◌, length, Bool, true, false, List, [], ◌∷◌, ap, ap₂, sym, ◌∙◌, subst, refl, arith, inl, inr, ⊎_elim, ◌↔◌, nat_eq, if◌then◌else◌}
use Rattle.std.proofs.Math.IntN.{ℤ, pos, ◌+ℤ◌, ◌*ℤ◌}
use Rattle.std.proofs.lemmas.Bool.{eq-eqb, eqb-true}
use Rattle.logic_meaning.specs.Context.{Context}
use Rattle.logic_meaning.specs.Point.{Point, move}
use Rattle.formula_laws.specs.Points.{AgreeOn}
use Rattle.logic_meaning.specs.Formula.{Formula, Formulas, Yes, No, One, Not, And, Or, Impl, Repl, Equiv, Ex, All, none, also}
use Rattle.logic_meaning.specs.Truth.{True, AllTrue, SomeTrue}
use Rattle.logic_meaning.specs.Every.{Free, FreeInSome}
use Rattle.logic_meaning.specs.Form.{Form, Term, total, value, multiple, others, coefficient}
use Rattle.exact_numbers.proofs.Ring.{zero_mul}
use Rattle.exact_numbers.proofs.Order.{by_zero}
use Rattle.formula_laws.proofs.Values.{total_split}
use Rattle.logic_meaning.specs.Atom.{Atom, Compare, Congruent, Says, Relates, IsMultiple, Mentions}
use Rattle.logic_meaning.specs.Tree.{Tree, TrueAt, IsFree}

pub agree_sym : {N : Type 0} {P : N → Type 0} {p q : Point N} → AgreeOn P p q → AgreeOn P q p
agree_sym h = record { same_below = sym h.same_below; same_at = λ x u. sym (h.same_at x u) }

pub agree_fewer : {N : Type 0} {P Q : N → Type 0} {p q : Point N} → ((x : N) → Q x → P x) → AgreeOn P p q → AgreeOn Q p q
agree_fewer f h = record { same_below = h.same_below; same_at = λ x u. h.same_at x (f x u) }

module _ {A N : Type 0} (says : A → Point N → Type 0) (same : N → N → Bool) (c : Context) (mentions : A → N → Type 0)
    (differ : (x y : N) → same x y ≡ false → ¬ (x ≡ y))
    (atoms : (a : A) (p q : Point N) → AgreeOn (mentions a) p q → says a p → says a q) where
  agree_move : (P : N → Type 0) (p q : Point N) (x : N) (k : ℤ) (m : ℕ) → AgreeOn (λ y. ¬ (x ≡ y) × P y) p q → AgreeOn P (move same p x k m) (move same q x k m)
  unfolding move
  agree_move P p q x k m h = record {
    same_below = ap (λ b. b * m) h.same_below;
    same_at = λ y u. go y (same x y) refl u;
  }
    where
      go : (y : N) (b : Bool) → same x y ≡ b → P y → (if b then k else pos m *ℤ p.at y) ≡ (if b then k else pos m *ℤ q.at y)
      go y true e u = refl
      go y false e u = ap (λ z. pos m *ℤ z) (h.same_at y (differ x y e, u))

  mutual
    pub free_names_decide : (f : Formula A N) (p q : Point N) → AgreeOn (Free mentions f) p q → True says (move same) c f p ↔ True says (move same) c f q
    free_names_decide Yes p q h = (λ t. t, λ t. t)
    free_names_decide No p q h = (λ t. t, λ t. t)
    free_names_decide (One a) p q h = (atoms a p q h, atoms a q p (agree_sym h))
    free_names_decide (Not f) p q h = let i = free_names_decide f p q h in (λ t u. t (i.1 u), λ t u. t (i.0 u))
    free_names_decide (And fs) p q h = all_decided fs p q h
    free_names_decide (Or fs) p q h = some_decided fs p q h
    free_names_decide (Impl f g) p q h =
        let i = free_names_decide f p q (agree_fewer (λ x u. inl u) h) in let j = free_names_decide g p q (agree_fewer (λ x u. inr u) h) in
        (λ t u. j.0 (t (i.1 u)), λ t u. j.1 (t (i.0 u)))
    free_names_decide (Repl f g) p q h =
        let i = free_names_decide f p q (agree_fewer (λ x u. inl u) h) in let j = free_names_decide g p q (agree_fewer (λ x u. inr u) h) in
        (λ t u. i.0 (t (j.1 u)), λ t u. i.1 (t (j.0 u)))
    free_names_decide (Equiv f g) p q h =
        let i = free_names_decide f p q (agree_fewer (λ x u. inl u) h) in let j = free_names_decide g p q (agree_fewer (λ x u. inr u) h) in
        (λ t. (λ u. j.0 (t.0 (i.1 u)), λ u. i.0 (t.1 (j.1 u))), λ t. (λ u. j.1 (t.0 (i.0 u)), λ u. i.1 (t.1 (j.0 u))))
    free_names_decide (Ex x f) p q h = (
      λ t. (t.0, t.1, t.2, (free_names_decide f (move same p x t.0 t.1) (move same q x t.0 t.1) (agree_move (Free mentions f) p q x t.0 t.1 h)).0 t.3),
      λ t. (t.0, t.1, t.2, (free_names_decide f (move same p x t.0 t.1) (move same q x t.0 t.1) (agree_move (Free mentions f) p q x t.0 t.1 h)).1 t.3),
    )
    free_names_decide (All x f) p q h = (
      λ t k m a. (free_names_decide f (move same p x k m) (move same q x k m) (agree_move (Free mentions f) p q x k m h)).0 (t k m a),
      λ t k m a. (free_names_decide f (move same p x k m) (move same q x k m) (agree_move (Free mentions f) p q x k m h)).1 (t k m a),
    )

    all_decided : (fs : Formulas A N) (p q : Point N) → AgreeOn (FreeInSome mentions fs) p q → AllTrue says (move same) c fs p ↔ AllTrue says (move same) c fs q
    all_decided none p q h = (λ t. t, λ t. t)
    all_decided (also f fs) p q h =
        let i = free_names_decide f p q (agree_fewer (λ x u. inl u) h) in let j = all_decided fs p q (agree_fewer (λ x u. inr u) h) in
        (λ t. (i.0 t.0, j.0 t.1), λ t. (i.1 t.0, j.1 t.1))

    some_decided : (fs : Formulas A N) (p q : Point N) → AgreeOn (FreeInSome mentions fs) p q → SomeTrue says (move same) c fs p ↔ SomeTrue says (move same) c fs q
    some_decided none p q h = (λ t. t, λ t. t)
    some_decided (also f fs) p q h =
        let i = free_names_decide f p q (agree_fewer (λ x u. inl u) h) in let j = some_decided fs p q (agree_fewer (λ x u. inr u) h) in
        (⊎_elim (λ t. inl (i.0 t)) (λ t. inr (j.0 t)), ⊎_elim (λ t. inl (i.1 t)) (λ t. inr (j.1 t)))

-- without a name's terms the other names keep their multiples
pub multiple_others : (x y : ℕ) (ts : List Term) → (nat_eq x y ≡ true → multiple y (others x ts) ≡ pos 0) × (nat_eq x y ≡ false → multiple y (others x ts) ≡ multiple y ts)
multiple_others x y [] = (λ e. refl, λ e. refl)
multiple_others x y (t ∷ ts) = go (nat_eq x t.name) refl (nat_eq y t.name) refl (multiple_others x y ts)
  where
    go : (b : Bool) → nat_eq x t.name ≡ b → (c : Bool) → nat_eq y t.name ≡ c →
        (nat_eq x y ≡ true → multiple y (others x ts) ≡ pos 0) × (nat_eq x y ≡ false → multiple y (others x ts) ≡ multiple y ts) →
        (nat_eq x y ≡ true → multiple y (if b then others x ts else t ∷ others x ts) ≡ pos 0)
        × (nat_eq x y ≡ false → multiple y (if b then others x ts else t ∷ others x ts) ≡ (if c then t.times +ℤ multiple y ts else multiple y ts))
    go true e true f h = (h.0, λ n. absurd (cc (eq-eqb x y (eqb-true x t.name e ∙ sym (eqb-true y t.name f)), n)))
    go true e false f h = h
    go false e true f h = (λ s. absurd (cc (eq-eqb x t.name (eqb-true x y s ∙ eqb-true y t.name f), e)), λ n. subst (λ c. (if c then t.times +ℤ multiple y (others x ts) else multiple y (others x ts)) ≡ t.times +ℤ multiple y ts) (sym f) (ap (λ z. t.times +ℤ z) (h.1 n)))
    go false e false f h = (λ s. subst (λ c. (if c then t.times +ℤ multiple y (others x ts) else multiple y (others x ts)) ≡ pos 0) (sym f) (h.0 s), λ n. subst (λ c. (if c then t.times +ℤ multiple y (others x ts) else multiple y (others x ts)) ≡ multiple y ts) (sym f) (h.1 n))

others_shorter : (x : ℕ) (ts : List Term) → length (others x ts) ≤ length ts
others_shorter x [] = omega arith
others_shorter x (t ∷ ts) = go (nat_eq x t.name) (others_shorter x ts)
  where
    go : (b : Bool) → length (others x ts) ≤ length ts → length (if b then others x ts else t ∷ others x ts) ≤ suc (length ts)
    go true h = omega arith
    go false h = omega arith

-- the terms of the first name, and the rest
first_others : (t : Term) (ts : List Term) → others t.name (t ∷ ts) ≡ others t.name ts
first_others t ts = ap (λ (b : Bool). if b then others t.name ts else t ∷ others t.name ts) (eq-eqb t.name t.name refl)

product_agrees : (m a b : ℤ) → (¬ (m ≡ pos 0) → a ≡ b) → m *ℤ a ≡ m *ℤ b
product_agrees m a b h =
    by_zero m (λ e. ap (λ z. z *ℤ a) e ∙ zero_mul a ∙ sym (zero_mul b) ∙ sym (ap (λ z. z *ℤ b) e)) (λ n. ap (λ z. m *ℤ z) (h n))

total_agrees : (steps : ℕ) (ts : List Term) (at by : ℕ → ℤ) → length ts ≤ steps → ((x : ℕ) → ¬ (multiple x ts ≡ pos 0) → at x ≡ by x) → total ts at ≡ total ts by
total_agrees steps [] at by l h = refl
total_agrees zero (t ∷ ts) at by l h = absurd (omega arith)
total_agrees (suc steps) (t ∷ ts) at by l h =
    let x = t.name in
    let us = others t.name (t ∷ ts) in
    let shorter : length (others t.name (t ∷ ts)) ≤ steps = let e = ap (λ (vs : List Term). length vs) (first_others t ts) in let s = others_shorter t.name ts in omega arith in
    let rest : total us at ≡ total us by = total_agrees steps us at by shorter (λ y n. h y (λ z. n (gone y z))) in
    let head : multiple x (t ∷ ts) *ℤ at x ≡ multiple x (t ∷ ts) *ℤ by x = product_agrees (multiple x (t ∷ ts)) (at x) (by x) (h x) in
    total_split (t ∷ ts) at x ∙ ap₂ (λ a b. a +ℤ b) head rest ∙ sym (total_split (t ∷ ts) by x)
  where
    gone : (y : ℕ) → multiple y (t ∷ ts) ≡ pos 0 → multiple y (others t.name (t ∷ ts)) ≡ pos 0
    gone y z = go (nat_eq t.name y) refl
      where
        go : (b : Bool) → nat_eq t.name y ≡ b → multiple y (others t.name (t ∷ ts)) ≡ pos 0
        go true e = (multiple_others t.name y (t ∷ ts)).0 e
        go false e = (multiple_others t.name y (t ∷ ts)).1 e ∙ z

-- the value of a form depends alone on the names whose coefficient is not 0
pub value_agrees : (f : Form) (p q : Point ℕ) → AgreeOn (λ x. ¬ (coefficient x f ≡ pos 0)) p q → value f p ≡ value f q
unfolding value coefficient
value_agrees f p q h = ap₂ (λ a (b : ℕ). a +ℤ f.constant *ℤ pos b) (total_agrees (length f.terms) f.terms p.at q.at (omega arith) h.same_at) h.same_below

divides_agrees : (m : ℕ) (f : Form) (p q : Point ℕ) → AgreeOn (λ x. ¬ (coefficient x f ≡ pos 0)) p q → IsMultiple m f p → IsMultiple m f q
divides_agrees m f p q h d = (d.0, sym (value_agrees f p q h) ∙ d.1 ∙ ap (λ (b : ℕ). d.0 *ℤ (pos m *ℤ pos b)) h.same_below)

pub atom_agrees : (a : Atom) (p q : Point ℕ) → AgreeOn (Mentions a) p q → Says a p → Says a q
atom_agrees (Compare r f) p q h t = subst (λ z. Relates r z (pos 0)) (value_agrees f p q h) t
atom_agrees (Congruent true m f) p q h t = divides_agrees m f p q h t
atom_agrees (Congruent false m f) p q h t = λ d. t (divides_agrees m f q p (agree_sym h) d)

pub differ_names : (x y : ℕ) → nat_eq x y ≡ false → ¬ (x ≡ y)
differ_names x y e h = absurd (cc (eq-eqb x y h, e))

-- the truth of a tree depends on its free names alone
pub tree_agrees : (c : Context) (f : Tree) (p q : Point ℕ) → AgreeOn (IsFree f) p q → TrueAt c f p ↔ TrueAt c f q
tree_agrees c f p q h = free_names_decide Says nat_eq c Mentions differ_names atom_agrees f p q h
