-- A point behind names that are eliminated, where the formula is true before them, and back.
use Rattle.std.proofs.Common.{◌≡◌, ℕ, ◌*◌, ◌<◌, List, [], ◌∷◌, Bool, true, false, if◌then◌else◌, ap, sym, ◌∙◌, subst, refl, arith, inl, inr, nat_eq, eqb-true, eq-eqb, unsigned_abs}
use Rattle.std.proofs.Math.IntN.{ℤ, pos, ◌*ℤ◌}
use Rattle.std.specs.Prelude.{◌<ℤ◌}
use Rattle.std.proofs.lemmas.Bool.{false≢true}
use Rattle.std.proofs.lemmas.Int.{ints}
use Rattle.exact_numbers.proofs.Order.{mul_less}
use Rattle.exact_numbers.proofs.Ring.{ring, one_mul, mul_assoc, mul_comm}
use Rattle.logic_meaning.specs.Context.{Fields}
use Rattle.logic_meaning.specs.FieldsOrder.{IsLess}
use Rattle.logic_meaning.specs.Point.{Point, Of, move}
use Rattle.logic_meaning.specs.Some.{Among, EachOf}
use Rattle.logic_meaning.specs.Target.{TargetAt}
use Rattle.logic_meaning.specs.Tree.{Tree, TrueAt}
use Rattle.logic_meaning.specs.Values.{Value, value_names, with_value, with_values, IsValue, origin}
use Rattle.formula_laws.specs.Points.{finer}
use Rattle.formula_laws.proofs.SamePoint.{point_same}
use Rattle.formula_laws.proofs.TreeFiner.{tree_finer}
use Rattle.formula_laws.proofs.Values.{pos_mul}
use Rattle.linear_theory.specs.WeakTargets.{exs}
use Rattle.sample_reference.proofs.SamePoints.{value_allowed, abs_positive, abs_above}

-- the denominator is c times as large, and each name but these has the value that it had
pub record IsBehind (names : List ℕ) (p q : Point ℕ) (c : ℕ) : Type 0 where
  pub positive : 0 < c
  pub below : q.below ≡ p.below * c
  pub stays : (x : ℕ) → ¬ (Among names x) → q.at x ≡ pos c *ℤ p.at x

pub moved_below : (p : Point ℕ) (y : ℕ) (k : ℤ) (m : ℕ) → (move nat_eq p y k m).below ≡ p.below * m
unfolding move
moved_below p y k m = refl

pub moved_other : (p : Point ℕ) (y : ℕ) (k : ℤ) (m : ℕ) (x : ℕ) → ¬ (y ≡ x) → (move nat_eq p y k m).at x ≡ pos m *ℤ p.at x
unfolding move
moved_other p y k m x n = go (nat_eq y x) refl
  where
    go : (b : Bool) → nat_eq y x ≡ b → (if b then k else pos m *ℤ p.at x) ≡ pos m *ℤ p.at x
    go true e = absurd (n (eqb-true y x e))
    go false e = refl

longer : (c m a s : ℤ) → s ≡ m *ℤ c → c *ℤ (m *ℤ a) ≡ s *ℤ a
longer c m a s e = let h = ap (λ u. u *ℤ a) e in simp ring (omega (arith, ints, simp ring at h))

pub record IsWitness (names : List ℕ) (f : Tree) (p q : Point ℕ) : Type 0 where
  pub factor : ℕ
  pub behind : IsBehind names p q factor
  pub true_there : TrueAt Fields f q

nothing_behind : (p : Point ℕ) → IsBehind [] p p 1
nothing_behind p = record { positive = omega arith; below = omega arith; stays = λ x n. sym (one_mul (p.at x)) }

one_behind : (y : ℕ) (ys : List ℕ) (p q : Point ℕ) (k : ℤ) (m c : ℕ) → 0 < m → IsBehind ys (move nat_eq p y k m) q c → IsBehind (y ∷ ys) p q (m * c)
one_behind y ys p q k m c h b = record {
  positive = let i = b.positive in grind arith;
  below = let e = b.below in let f = moved_below p y k m in let g = ap (λ u. u * c) f in omega (arith, e, g);
  stays = λ x n. b.stays x (λ i. n (inr i)) ∙ ap (λ u. pos c *ℤ u) (moved_other p y k m x (λ e. n (inl e))) ∙ longer (pos c) (pos m) (p.at x) (pos (m * c)) (pos_mul m c);
}

pub witness : (names : List ℕ) (f : Tree) (p : Point ℕ) → TrueAt Fields (exs names f) p → (q : Point ℕ) × IsWitness names f p q
witness [] f p t = (p, record { factor = 1; behind = nothing_behind p; true_there = t })
witness (y ∷ ys) f p t =
    let r = witness ys f (move nat_eq p y t.0 t.1) t.3 in
    (r.0, record { factor = t.1 * r.1.factor; behind = one_behind y ys p r.0 t.0 t.1 r.1.factor t.2 r.1.behind; true_there = r.1.true_there })

-- ---- back

finer_is : (p q : Point ℕ) (c : ℕ) → IsBehind [] p q c → q ≡ finer p c
unfolding finer
finer_is p q c h = point_same q.at (λ x. pos c *ℤ p.at x) q.below (p.below * c) (λ x. h.stays x (λ i. i)) h.below

next_behind : (y : ℕ) (ys : List ℕ) (p q : Point ℕ) (c : ℕ) → IsBehind (y ∷ ys) p q c → IsBehind ys (move nat_eq p y (q.at y) c) q 1
unfolding move
next_behind y ys p q c h = record {
  positive = omega arith;
  below = let e = h.below in omega (arith, e);
  stays = λ x n. go x n (nat_eq y x) refl;
}
  where
    out : (x : ℕ) → ¬ (Among ys x) → nat_eq y x ≡ false → ¬ (Among (y ∷ ys) x)
    out x n e (inl s) = absurd (false≢true (sym e ∙ ap (nat_eq y) (sym s) ∙ eq-eqb y y refl))
    out x n e (inr i) = n i

    go : (x : ℕ) → ¬ (Among ys x) → (b : Bool) → nat_eq y x ≡ b → q.at x ≡ pos 1 *ℤ (if b then q.at y else pos c *ℤ p.at x)
    go x n true e = ap q.at (sym (eqb-true y x e)) ∙ sym (one_mul (q.at y))
    go x n false e = h.stays x (out x n e) ∙ sym (one_mul (pos c *ℤ p.at x))

pub before : (names : List ℕ) (f : Tree) (p q : Point ℕ) (c : ℕ) → IsBehind names p q c → TrueAt Fields f q → TrueAt Fields (exs names f) p
before [] f p q c h t = (tree_finer Fields f p c h.positive).1 (subst (TrueAt Fields f) (finer_is p q c h) t)
before (y ∷ ys) f p q c h t = (q.at y, c, h.positive, before ys f (move nat_eq p y (q.at y) c) q 1 (next_behind y ys p q c h) t)

-- values with which the formula is true make it true behind their names
pub values_true : (vs : List Value) (f : Tree) (p : Point ℕ) → EachOf (IsValue Fields) vs → TrueAt Fields f (with_values p vs) → TrueAt Fields (exs (value_names vs) f) p
values_true [] f p h t = t
values_true (v ∷ vs) f p h t = (v.at.numerator *ℤ pos p.below, unsigned_abs v.at.denominator, value_allowed Fields v h.0, values_true vs f (with_value p v) h.1 t)

-- ---- the target

-- where the formula is true with the target at j/n, it is true at a point at which the target is j/n
pub record HasTarget (z : ℕ) (f : Tree) (j : ℤ) (n : ℕ) (q : Point ℕ) (c : ℕ) : Type 0 where
  pub positive : 0 < c
  pub at : q.at z ≡ pos c *ℤ j
  pub below : q.below ≡ n * c
  pub true_there : TrueAt Fields f q

moved_here : (p : Point ℕ) (z : ℕ) (k : ℤ) (m : ℕ) → (move nat_eq p z k m).at z ≡ k
unfolding move
moved_here p z k m = ap (λ (b : Bool). if b then k else pos m *ℤ p.at z) (eq-eqb z z refl)

pub target_witness : (z : ℕ) (names : List ℕ) (f : Tree) (j : ℤ) (n : ℕ) (q : Point ℕ) → ¬ (Among names z) → (w : IsWitness names f (move nat_eq origin z j n) q) → HasTarget z f j n q w.factor
target_witness z names f j n q apart w = record {
  positive = w.behind.positive;
  at = w.behind.stays z apart ∙ ap (λ u. pos w.factor *ℤ u) (moved_here origin z j n);
  below = w.behind.below ∙ ap (λ u. u * w.factor) (moved_below origin z j n ∙ one_times n);
  true_there = w.true_there;
}
  where
    one_times : (n : ℕ) → 1 * n ≡ n
    one_times n = omega arith

pub witness_positive : (z : ℕ) (f : Tree) (j : ℤ) (n : ℕ) (q : Point ℕ) (c : ℕ) → 0 < n → HasTarget z f j n q c → Of Fields q
witness_positive z f j n q c h w = let e = w.below in let k = w.positive in subst (λ u. 0 < u) (sym e) (product n c h k)
  where
    product : (n c : ℕ) → 0 < n → 0 < c → 0 < n * c
    product n c h k = grind arith

-- j/n below k/d, over the denominator of the point
below_there : (j k d : ℤ) (n c : ℕ) (a b : ℤ) → a ≡ pos c *ℤ j → b ≡ pos n *ℤ pos c → pos 0 <ℤ pos c → (j *ℤ d) <ℤ (k *ℤ pos n) → (a *ℤ d) <ℤ (k *ℤ b)
below_there j k d n c a b e f h l =
    let i = mul_less (pos c) h l in
    let g : a *ℤ d ≡ pos c *ℤ (j *ℤ d) = ap (λ u. u *ℤ d) e ∙ mul_assoc (pos c) j d in
    let m : k *ℤ b ≡ pos c *ℤ (k *ℤ pos n) = ap (λ u. k *ℤ u) f ∙ sym (mul_assoc k (pos n) (pos c)) ∙ mul_comm (k *ℤ pos n) (pos c) in
    omega (arith, ints, i, g, m)

-- where no point at which the target is below k/d makes the formula true, the formula is true at no smaller value of the target
pub no_smaller : (z : ℕ) (names : List ℕ) (f : Tree) (k d : ℤ) → ¬ (Among names z) → pos 0 <ℤ d
    → ((p : Point ℕ) → Of Fields p → (p.at z *ℤ d) <ℤ (k *ℤ pos p.below) → ¬ (TrueAt Fields f p))
    → (j : ℤ) (n : ℕ) → 0 < n → IsLess j n k (unsigned_abs d) → ¬ (TargetAt z (exs names f) origin j n)
no_smaller z names f k d apart h none j n i less t =
    let w = witness names f (move nat_eq origin z j n) t in
    let there = target_witness z names f j n w.0 apart w.1 in
    let c = w.1.factor in
    let l : (j *ℤ d) <ℤ (k *ℤ pos n) = subst (λ u. (j *ℤ u) <ℤ (k *ℤ pos n)) (abs_positive d h) less in
    let pc = there.positive in
    none w.0 (witness_positive z f j n w.0 c i there) (below_there j k d n c (w.0.at z) (pos w.0.below) there.at (ap pos there.below ∙ pos_mul n c) (omega (arith, ints)) l) there.true_there

-- the formula is true nowhere if no point makes it true
pub nowhere : (z : ℕ) (names : List ℕ) (f : Tree) → ¬ (Among names z) → ((p : Point ℕ) → Of Fields p → ¬ (TrueAt Fields f p)) → (j : ℤ) (n : ℕ) → 0 < n → ¬ (TargetAt z (exs names f) origin j n)
nowhere z names f apart none j n i t =
    let w = witness names f (move nat_eq origin z j n) t in
    let there = target_witness z names f j n w.0 apart w.1 in
    none w.0 (witness_positive z f j n w.0 w.1.factor i there) there.true_there
