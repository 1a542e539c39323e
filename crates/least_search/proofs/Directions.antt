-- A point that meets constraints and goes on by steps that keep them.
use Rattle.std.proofs.Common.{◌≡◌, ℕ, ◌+◌, ◌*◌, ◌<◌, List, [], ◌∷◌, Bool, true, false, ap, sym, ◌∙◌, subst, refl, arith, ◌⊎◌, inl, inr, if◌then◌else◌, nat_eq, eqb-true, eq-eqb}
use Rattle.std.proofs.Math.IntN.{ℤ, pos, ◌+ℤ◌, ◌*ℤ◌}
use Rattle.std.specs.Prelude.{◌<ℤ◌, ◌≤ℤ◌}
use Rattle.std.proofs.lemmas.Bool.{false≢true}
use Rattle.std.proofs.lemmas.Int.{ints}
use Rattle.exact_numbers.proofs.Order.{mul_less, mul_at_most, mul_positive}
use Rattle.exact_numbers.proofs.Ring.{ring, add_mul, mul_zero, zero_mul, one_mul}
use Rattle.logic_meaning.specs.Constraints.{Bound, Equal, AtMost, Below, Constraint}
use Rattle.logic_meaning.specs.Context.{Fields}
use Rattle.logic_meaning.specs.FieldsOrder.{IsLess}
use Rattle.logic_meaning.specs.Form.{Form, Term, total, value}
use Rattle.logic_meaning.specs.Point.{Point, Of, move}
use Rattle.logic_meaning.specs.Some.{Among, EachOf}
use Rattle.logic_meaning.specs.Target.{TargetAt, IsInfeasible, IsUnbounded, IsLeast}
use Rattle.logic_meaning.specs.Tree.{Tree, TrueAt}
use Rattle.logic_meaning.specs.Values.{origin}
use Rattle.formula_laws.proofs.Values.{pos_mul}
use Rattle.linear_theory.specs.Meeting.{Stands, Meets, MeetsAll}
use Rattle.linear_theory.specs.WeakTargets.{exs}
use Rattle.linear_theory.proofs.WeakTargets.{targets_have_least}
use Rattle.least_search.specs.Problems.{AreRowsOf, IsKeptBy, named_part, IsKeptAlong, LeadsDown}
use Rattle.least_search.proofs.Witnesses.{IsBehind, IsWitness, witness, before, HasTarget, target_witness, witness_positive, moved_other, moved_below}

-- the point that goes on by the steps
abbrev pub along : Point ℕ → Point ℕ → Point ℕ
along p r = record { at = λ x. pos r.below *ℤ p.at x +ℤ pos p.below *ℤ r.at x; below = p.below * r.below }

-- ---- values

one_more : (t a b x y s u v : ℤ) → s ≡ a *ℤ u +ℤ b *ℤ v → t *ℤ (a *ℤ x +ℤ b *ℤ y) +ℤ s ≡ a *ℤ (t *ℤ x +ℤ u) +ℤ b *ℤ (t *ℤ y +ℤ v)
one_more t a b x y s u v e = simp ring (omega (arith, ints, e))

total_along : (ts : List Term) (a b : ℤ) (p r : ℕ → ℤ) → total ts (λ x. a *ℤ p x +ℤ b *ℤ r x) ≡ a *ℤ total ts p +ℤ b *ℤ total ts r
total_along [] a b p r = let e = mul_zero a in let f = mul_zero b in omega (arith, ints)
total_along (t ∷ ts) a b p r = one_more t.times a b (p t.name) (r t.name) (total ts (λ x. a *ℤ p x +ℤ b *ℤ r x)) (total ts p) (total ts r) (total_along ts a b p r)

with_constant : (a b s u v k d : ℤ) → s ≡ a *ℤ u +ℤ b *ℤ v → d ≡ b *ℤ a → s +ℤ k *ℤ d ≡ a *ℤ (u +ℤ k *ℤ b) +ℤ b *ℤ (v +ℤ pos 0 *ℤ a)
with_constant a b s u v k d e f =
    let z = zero_mul a in
    let g = ap (λ w. k *ℤ w) f in
    let h = ap (λ w. b *ℤ (v +ℤ w)) z in
    let i = simp ring at h in
    simp ring (omega (arith, ints, e, simp ring at g, i))

pub value_along : (f : Form) (p r : Point ℕ) → value f (along p r) ≡ pos r.below *ℤ value f p +ℤ pos p.below *ℤ value (named_part f) r
unfolding value
value_along f p r =
    with_constant (pos r.below) (pos p.below) (total f.terms (λ x. pos r.below *ℤ p.at x +ℤ pos p.below *ℤ r.at x)) (total f.terms p.at) (total f.terms r.at) f.constant (pos (p.below * r.below))
    (total_along f.terms (pos r.below) (pos p.below) p.at r.at) (pos_mul p.below r.below)

-- ---- constraints

stands_along : (b : Bound) (v w x y : ℤ) → pos 0 <ℤ x → pos 0 <ℤ y → Stands b v → IsKeptBy b w → Stands b (x *ℤ v +ℤ y *ℤ w)
stands_along Equal v w x y hx hy s k = let e = ap (λ u. x *ℤ u) s ∙ mul_zero x in let f = ap (λ u. y *ℤ u) k ∙ mul_zero y in omega (arith, ints, e, f)
stands_along AtMost v w x y hx hy s k =
    let i : pos 0 ≤ℤ x = omega (arith, ints) in let j : pos 0 ≤ℤ y = omega (arith, ints) in
    let e = mul_at_most x i s in let f = mul_at_most y j k in let g = mul_zero x in let h = mul_zero y in
    omega (arith, ints, e, f, g, h)
stands_along Below v w x y hx hy s k =
    let j : pos 0 ≤ℤ y = omega (arith, ints) in
    let e = mul_less x hx s in let f = mul_at_most y j k in let g = mul_zero x in let h = mul_zero y in
    omega (arith, ints, e, f, g, h)

meets_along : (p r : Point ℕ) → Of Fields p → Of Fields r → (cs : List Constraint) → MeetsAll p cs → EachOf (IsKeptAlong r) cs → MeetsAll (along p r) cs
meets_along p r op or [] m k = tt
meets_along p r op or (c ∷ cs) m k = (
  subst (Stands c.bound) (sym (value_along c.form p r)) (stands_along c.bound (value c.form p) (value (named_part c.form) r) (pos r.below) (pos p.below) (omega (arith, ints, or)) (omega (arith, ints, op)) m.0 k.0),
  meets_along p r op or cs m.1 k.1,
)

-- ---- the target falls

around : (m c j n : ℤ) → (m *ℤ (c *ℤ j)) *ℤ n ≡ j *ℤ ((n *ℤ c) *ℤ m)
around m c j n = simp ring

swapped : (b d n : ℤ) → (b *ℤ d) *ℤ n ≡ (b *ℤ n) *ℤ d
swapped b d n = simp ring

falls_there : (j a b c d n m : ℤ) → pos 0 <ℤ n → pos 0 <ℤ c → a ≡ c *ℤ j → b ≡ n *ℤ c → d <ℤ pos 0 → ((m *ℤ a +ℤ b *ℤ d) *ℤ n) <ℤ (j *ℤ (b *ℤ m))
falls_there j a b c d n m hn hc e f h =
    let q : pos 0 <ℤ (b *ℤ n) = subst (λ u. pos 0 <ℤ (u *ℤ n)) (sym f) (mul_positive (mul_positive hn hc) hn) in
    let l = mul_less (b *ℤ n) q h in
    let z = mul_zero (b *ℤ n) in
    let s = add_mul (m *ℤ a) (b *ℤ d) n in
    let t : (m *ℤ a) *ℤ n ≡ j *ℤ (b *ℤ m) = ap (λ w. (m *ℤ w) *ℤ n) e ∙ around m c j n ∙ ap (λ w. j *ℤ (w *ℤ m)) (sym f) in
    let v = swapped b d n in
    omega (arith, ints, l, z, s, t, v)

module _ (z : ℕ) (names : List ℕ) (f : Tree) (cs : List Constraint) (apart : ¬ (Among names z)) (rows : AreRowsOf f cs) (r : Point ℕ) (down : LeadsDown z names cs r) where
  -- from a value of the target down to a smaller one
  record IsLower (j : ℤ) (n : ℕ) : Type 0 where
    k : ℤ
    m : ℕ
    positive : 0 < m
    less : IsLess k m j n
    holds : TargetAt z (exs names f) origin k m

  -- a name that is not quantified keeps its value
  stay : (j : ℤ) (n : ℕ) (q : Point ℕ) (c : ℕ) → IsBehind names (move nat_eq origin z j n) q c → (x : ℕ) → ¬ (Among names x) → (along q r).at x ≡ pos 1 *ℤ (move nat_eq origin z ((along q r).at z) (along q r).below).at x
  unfolding move
  stay j n q c b x out = go (nat_eq z x) refl
    where
      nothing : (u v w y : ℤ) → w ≡ pos 0 → y ≡ pos 0 → u *ℤ w +ℤ v *ℤ y ≡ pos 0
      nothing u v w y e f = let g = ap (λ k. u *ℤ k) e ∙ mul_zero u in let h = ap (λ k. v *ℤ k) f ∙ mul_zero v in omega (arith, ints, g, h)

      go : (b : Bool) → nat_eq z x ≡ b → (along q r).at x ≡ pos 1 *ℤ (if b then (along q r).at z else pos (along q r).below *ℤ pos 0)
      go true e = ap (along q r).at (sym (eqb-true z x e)) ∙ sym (one_mul ((along q r).at z))
      go false e =
          let n' = other e in
          nothing (pos r.below) (pos q.below) (q.at x) (r.at x)
          (b.stays x out ∙ ap (λ u. pos c *ℤ u) (moved_other origin z j n x n' ∙ mul_zero (pos n)) ∙ mul_zero (pos c)) (down.stays x n' out)
          ∙ sym (one_mul (pos (along q r).below *ℤ pos 0) ∙ mul_zero (pos (along q r).below))
        where
          other : nat_eq z x ≡ false → ¬ (z ≡ x)
          other e s = absurd (false≢true (sym e ∙ ap (nat_eq z) (sym s) ∙ same z))
            where
              same : (y : ℕ) → nat_eq y y ≡ true
              same y = eq-eqb y y refl

  lower : (j : ℤ) (n : ℕ) → 0 < n → TargetAt z (exs names f) origin j n → IsLower j n
  lower j n i t =
      let w = witness names f (move nat_eq origin z j n) t in
      let q = w.0 in
      let c = w.1.factor in
      let there = target_witness z names f j n q apart w.1 in
      let oq = witness_positive z f j n q c i there in
      let s = along q r in
      let os : 0 < s.below = product q.below r.below oq down.positive in
      let pc = there.positive in
      record {
        k = s.at z;
        m = s.below;
        positive = os;
        less =
            subst (λ u. (s.at z *ℤ pos n) <ℤ (j *ℤ u)) (sym (pos_mul q.below r.below))
            (falls_there j (q.at z) (pos q.below) (pos c) (r.at z) (pos n) (pos r.below) (omega (arith, ints)) (omega (arith, ints)) there.at (ap pos there.below ∙ pos_mul n c) down.falls);
        holds =
            before names f (move nat_eq origin z (s.at z) s.below) s 1
            (record { positive = omega arith; below = once s.below _ (moved_below origin z (s.at z) s.below); stays = stay j n q c w.1.behind })
            ((rows.says s os).1 (meets_along q r oq down.positive cs ((rows.says q oq).0 there.true_there) down.kept));
      }
    where
      product : (a b : ℕ) → 0 < a → 0 < b → 0 < a * b
      product a b h k = grind arith

      once : (n b : ℕ) → b ≡ 1 * n → n ≡ b * 1
      once n b e = omega arith

  -- so there is no least value where there is one at all
  pub unbounded : (j : ℤ) (n : ℕ) → 0 < n → TargetAt z (exs names f) origin j n → IsUnbounded z (exs names f) origin
  unbounded j n i t = go (targets_have_least z names f origin rows.is_plain rows.weak (omega arith))
    where
      go : IsInfeasible z (exs names f) origin ⊎ (IsUnbounded z (exs names f) origin ⊎ ((k : ℤ) × (m : ℕ) × 0 < m × IsLeast z (exs names f) origin k m)) → IsUnbounded z (exs names f) origin
      go (inl none) = absurd (none j n i t)
      go (inr (inl u)) = u
      go (inr (inr l)) = let d = lower l.0 l.1 l.2 l.3.holds in absurd (l.3.least d.k d.m d.positive d.less d.holds)
