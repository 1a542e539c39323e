-- Under weak constraints a target is infeasible, or unbounded, or has a least value: the least of its true exact lower test points.
use Rattle.std.proofs.Common.{◌≡◌, ℕ, suc, zero, ◌+◌, ◌*◌, ◌<◌, ◌≤◌, List, [], ◌∷◌, ap, ◌∙◌, sym, subst, refl, arith, ◌⊎◌, inl, inr, ⊎_elim, ◌↔◌, nat_eq, unsigned_abs, flat_map}
use Rattle.std.proofs.Math.IntN.{ℤ, pos, negsuc, neg_ℤ, ◌*ℤ◌}
use Rattle.std.specs.Prelude.{◌<ℤ◌, ◌≤ℤ◌}
use Rattle.std.proofs.lemmas.Int.{ints}
use Rattle.exact_numbers.proofs.Order.{by_less}
use Rattle.exact_numbers.proofs.Ring.{neg_mul, mul_one}
use Rattle.logic_meaning.specs.Context.{Fields}
use Rattle.logic_meaning.specs.Point.{Point, Of, move}
use Rattle.logic_meaning.specs.Form.{Form, value}
use Rattle.logic_meaning.specs.Some.{Among}
use Rattle.logic_meaning.specs.Every.{Every}
use Rattle.logic_meaning.specs.Plain.{IsPlain}
use Rattle.logic_meaning.specs.Answer.{Place, Exact, AboveBy, BelowBy, PlusInfinity, MinusInfinity, Periodic, Holds, same_place}
use Rattle.logic_meaning.specs.Tree.{Tree, TrueAt}
use Rattle.formula_laws.specs.Equivalence.{Equivalent}
use Rattle.formula_laws.proofs.Listed.{among_flat_map, among_distinct}
use Rattle.formula_laws.proofs.Same.{place_same}
use Rattle.formula_laws.proofs.Values.{pos_mul}
use Rattle.formula_laws.proofs.TreeReplacing.{moved_of}
use Rattle.logic_meaning.specs.declared.side.Side.TheVariants.{Lower}
use Rattle.logic_meaning.specs.Atoms.{atoms_of}
use Rattle.logic_meaning.specs.FieldsPoints.{atom_points, field_points}
use Rattle.elimination_theory.specs.FieldsTrees.{field_substitution}
use Rattle.elimination_theory.specs.AtPlace.{at_place}
use Rattle.logic_meaning.specs.FieldsOrder.{IsLess}
use Rattle.elimination_theory.proofs.AtomsDecided.{IsDecided}
use Rattle.elimination_theory.proofs.Decided.{plain_decided}
use Rattle.elimination_theory.proofs.Simple.{substitution_plain}
use Rattle.elimination_theory.proofs.FieldsSubstitute.{substitution_exact}
use Rattle.elimination_theory.proofs.FieldsCut.{Covers, NotAfter, same_not_after}
use Rattle.elimination_theory.proofs.FieldsBegin.{Begins, IsOfSide, cut_of, formula_begins}
use Rattle.elimination_theory.proofs.FieldsMeet.{begins_meets, pos_positive, positive_pos}
use Rattle.elimination_theory.proofs.FieldsSuffice.{every_atom}
use Rattle.elimination_theory.proofs.Fractions.{at_most_at_most}
use Rattle.logic_meaning.specs.Target.{TargetAt, IsInfeasible, IsUnbounded, IsLeast}
use Rattle.linear_theory.specs.WeakTargets.{IsWeak, exs}
use Rattle.linear_theory.specs.Laws.{WeakTargetsHaveLeast, WeakTargetsSuit}
use Rattle.linear_theory.proofs.Weak.{IsWeakPlace, weak_in_fields, points_weak, stays_weak}

-- ---- a number far enough below

grown : (t w : ℕ) → 0 < w → t ≤ t * w
grown t w h = grind arith

size_above : (u : ℤ) → u ≤ℤ pos (unsigned_abs u)
size_above (pos u) = omega (arith, ints)
size_above (negsuc u) = omega (arith, ints)

size_below : (k : ℤ) → neg_ℤ (pos (unsigned_abs k)) ≤ℤ k
size_below (pos k) = omega (arith, ints)
size_below (negsuc k) = omega (arith, ints)

-- t is above u/w, and -t times b is below k/m
record IsFar (u : ℤ) (w b : ℕ) (k : ℤ) (m : ℕ) (t : ℤ) : Type 0 where
  above : (u *ℤ pos 1) <ℤ (t *ℤ pos w)
  below : IsLess (neg_ℤ t *ℤ pos b) 1 k m

far : (u : ℤ) (w b : ℕ) (k : ℤ) (m : ℕ) (size : ℕ) → size ≡ unsigned_abs u + unsigned_abs k + 1 → 0 < w → 0 < b → 0 < m → IsFar u w b k m (pos size)
far u w b k m size e pw pb pm = record {
  above =
      let f = mul_one u in let g = pos_mul size w in let h = grown size w pw in let i = size_above u in
      omega (arith, ints);
  below =
      let f = mul_one k in
      let g : neg_ℤ (pos size) *ℤ pos b *ℤ pos m ≡ neg_ℤ (pos size *ℤ pos b *ℤ pos m) = ap (λ y. y *ℤ pos m) (neg_mul (pos size) (pos b)) ∙ neg_mul (pos size *ℤ pos b) (pos m) in
      let q : pos (size * b * m) ≡ pos size *ℤ pos b *ℤ pos m = pos_mul (size * b) m ∙ ap (λ y. y *ℤ pos m) (pos_mul size b) in
      let h = grown size b pb in let i = grown (size * b) m pm in let j = size_below k in
      omega (arith, ints);
}

far_enough : (u : ℤ) (w b : ℕ) (k : ℤ) (m : ℕ) → 0 < w → 0 < b → 0 < m → (t : ℤ) × IsFar u w b k m t
far_enough u w b k m pw pb pm = (pos (unsigned_abs u + unsigned_abs k + 1), far u w b k m (unsigned_abs u + unsigned_abs k + 1) refl pw pb pm)

-- the points of each atom are listed
points_listed : (x : ℕ) (f : Tree) → Every (λ a. (q : Place) → Among (atom_points Lower x a) q → Among (field_points Lower x f) q) f
points_listed x f =
    every_atom _ f (λ a m q h. among_distinct same_place place_same (MinusInfinity ∷ flat_map (atom_points Lower x) (atoms_of f)) q (inr (among_flat_map (atom_points Lower x) (atoms_of f) a q m h)))

-- ---- one formula

module _ (z : ℕ) (g : Tree) (p : Point ℕ) (s : IsPlain g) (w : Every IsWeak g) (o : Of Fields p) where
  -- the place is exact, and the formula is true there
  abbrev TrueHere : Place → Type 0
  TrueHere (Exact e d) = 0 < d × TargetAt z g p (value e p) d
  TrueHere (AboveBy e d) = ⊥
  TrueHere (BelowBy e d) = ⊥
  TrueHere PlusInfinity = ⊥
  TrueHere MinusInfinity = ⊥
  TrueHere (Periodic a q) = ⊥

  -- an exact place is not before k/m
  abbrev NotBefore : ℤ → ℕ → Place → Type 0
  NotBefore k m (Exact e d) = (k *ℤ pos d) ≤ℤ (value e p *ℤ pos m)
  NotBefore k m (AboveBy e d) = Unit {0}
  NotBefore k m (BelowBy e d) = Unit {0}
  NotBefore k m PlusInfinity = Unit {0}
  NotBefore k m MinusInfinity = Unit {0}
  NotBefore k m (Periodic a q) = Unit {0}

  decided_at : (k : ℤ) (m : ℕ) → 0 < m → IsDecided (TargetAt z g p k m)
  decided_at k m h = plain_decided Fields g s (weak_in_fields g w) (move nat_eq p z k m) (moved_of Fields p z k m o h)

  decided_here : (q : Place) → IsDecided (TrueHere q)
  decided_here (Exact e zero) = inr (λ t. absurd (never t.0))
    where
      never : 0 < 0 → ⊥
      never h = omega arith
  decided_here (Exact e (suc d)) = let h : 0 < suc d = omega arith in ⊎_elim (λ t. inl (h, t)) (λ n. inr (λ t. n t.1)) (decided_at (value e p) (suc d) h)
  decided_here (AboveBy e d) = inr (λ t. t)
  decided_here (BelowBy e d) = inr (λ t. t)
  decided_here PlusInfinity = inr (λ t. t)
  decided_here MinusInfinity = inr (λ t. t)
  decided_here (Periodic a q) = inr (λ t. t)

  -- ---- the least of some places

  NoneOf : List Place → Type 0
  NoneOf ps = (q : Place) → Among ps q → ¬ (TrueHere q)

  record BestOf (ps : List Place) : Type 0 where
    k : ℤ
    m : ℕ
    positive : 0 < m
    true_there : TargetAt z g p k m
    first : (q : Place) → Among ps q → TrueHere q → NotBefore k m q

  passed : (q : Place) (ps : List Place) → ¬ (TrueHere q) → NoneOf ps ⊎ BestOf ps → NoneOf (q ∷ ps) ⊎ BestOf (q ∷ ps)
  unfolding NoneOf
  passed q ps n (inl none) = inl (λ r. ⊎_elim (λ e t. n (subst TrueHere (sym e) t)) (none r))
  passed q ps n (inr b) = inr (record {
    k = b.k;
    m = b.m;
    positive = b.positive;
    true_there = b.true_there;
    first = λ r. ⊎_elim (λ e t. absurd (n (subst TrueHere (sym e) t))) (b.first r);
  })

  self : (a : ℤ) → a ≤ℤ a
  self a = omega (arith, ints)

  -- this place is the least, or that one still is
  taken : (e : Form) (d : ℕ) (ps : List Place) → 0 < d → TargetAt z g p (value e p) d → NoneOf ps ⊎ BestOf ps → BestOf (Exact e d ∷ ps)
  unfolding NoneOf
  taken e d ps h t (inl none) = record {
    k = value e p;
    m = d;
    positive = h;
    true_there = t;
    first = λ r. ⊎_elim (λ i u. subst (NotBefore (value e p) d) i (self (value e p *ℤ pos d))) (λ m u. absurd (none r m u));
  }
  taken e d ps h t (inr b) =
      by_less (value e p *ℤ pos b.m) (b.k *ℤ pos d)
      (λ l. record {
        k = value e p;
        m = d;
        positive = h;
        true_there = t;
        first = λ r. ⊎_elim (λ i u. subst (NotBefore (value e p) d) i (self (value e p *ℤ pos d))) (λ m u. along l r u (b.first r m u));
      })
      (λ l. record {
        k = b.k;
        m = b.m;
        positive = b.positive;
        true_there = b.true_there;
        first = λ r. ⊎_elim (λ i u. subst (NotBefore b.k b.m) i l) (b.first r);
      })
    where
      along : (value e p *ℤ pos b.m) <ℤ (b.k *ℤ pos d) → (r : Place) → TrueHere r → NotBefore b.k b.m r → NotBefore (value e p) d r
      along l (Exact f c) u n =
          let l : (value e p *ℤ pos b.m) ≤ℤ (b.k *ℤ pos d) = omega (arith, ints) in
          at_most_at_most (value e p) (pos d) b.k (pos b.m) (value f p) (pos c) (pos_positive h) (pos_positive b.positive) (pos_positive u.0) l n
      along l (AboveBy f c) u n = tt
      along l (BelowBy f c) u n = tt
      along l PlusInfinity u n = tt
      along l MinusInfinity u n = tt
      along l (Periodic a q) u n = tt

  next : (q : Place) (ps : List Place) → IsDecided (TrueHere q) → NoneOf ps ⊎ BestOf ps → NoneOf (q ∷ ps) ⊎ BestOf (q ∷ ps)
  next q ps (inr n) b = passed q ps n b
  next (Exact e d) ps (inl t) b = inr (taken e d ps t.0 t.1 b)
  next (AboveBy e d) ps (inl t) b = absurd t
  next (BelowBy e d) ps (inl t) b = absurd t
  next PlusInfinity ps (inl t) b = absurd t
  next MinusInfinity ps (inl t) b = absurd t
  next (Periodic a q) ps (inl t) b = absurd t

  best : (ps : List Place) → NoneOf ps ⊎ BestOf ps
  unfolding NoneOf
  best [] = inl (λ q m. absurd m)
  best (q ∷ ps) = next q ps (decided_here q) (best ps)

  -- ---- down from a true value

  -- a true exact test point that is not after k/m
  record DownTo (k : ℤ) (m : ℕ) : Type 0 where
    e : Form
    d : ℕ
    listed : Among (field_points Lower z g) (Exact e d)
    here : TrueHere (Exact e d)
    before : (value e p *ℤ pos m) ≤ℤ (k *ℤ pos d)

  IsFarTrue : Type 0
  IsFarTrue = Holds Fields (at_place z MinusInfinity) g p

  far_decided : IsDecided IsFarTrue
  unfolding IsFarTrue
  far_decided =
      let i = weak_in_fields g w in
      let r = substitution_plain Fields z MinusInfinity g tt s i in
      let e = substitution_exact z MinusInfinity g p tt s i o in
      ⊎_elim (λ t. inl (e.1 t)) (λ n. inr (λ t. n (e.0 t))) (plain_decided Fields (field_substitution z MinusInfinity g) r.0 r.1 p o)

  down : ¬ IsFarTrue → (k : ℤ) (m : ℕ) → 0 < m → TargetAt z g p k m → DownTo k m
  unfolding IsFarTrue
  down n k m h t =
      let b : Begins Lower (Among (field_points Lower z g)) p (λ j l. TargetAt z g p j l) k m =
      formula_begins Lower (Among (field_points Lower z g)) p z (inl refl) k m (pos_positive h) g s (weak_in_fields g w) (points_listed z g) t in
      go b.place b.listed b.of_side b.covers b.fills (points_weak z g w b.place b.listed)
    where
      go : (q : Place) → Among (field_points Lower z g) q → IsOfSide Lower q → Covers Lower (cut_of p q) k m →
          ((j : ℤ) (l : ℕ) → pos 0 <ℤ pos l → Covers Lower (cut_of p q) j l → NotAfter Lower (j *ℤ pos m) (k *ℤ pos l) → TargetAt z g p j l) → IsWeakPlace q → DownTo k m
      go (Exact e d) l i c f weak = record { e = e; d = d; listed = l; here = (positive_pos i, f (value e p) d i (same_not_after Lower (value e p *ℤ pos d) (value e p *ℤ pos d) refl) c); before = c }
      go (AboveBy e d) l i c f weak = absurd weak
      go (BelowBy e d) l i c f weak = absurd weak
      go PlusInfinity l i c f weak = absurd weak
      go MinusInfinity l i c f weak =
          let b : Begins Lower (Among (field_points Lower z g)) p (λ j y. TargetAt z g p j y) k m = record { place = MinusInfinity; listed = l; of_side = i; covers = c; fills = f } in
          absurd (n (begins_meets z p o (λ q. TrueAt Fields g q) k m (pos_positive h) Lower (Among (field_points Lower z g)) b))
      go (Periodic a q) l i c f weak = absurd weak

  -- ---- the three cases

  unbounded : IsFarTrue → IsUnbounded z g p
  unfolding IsFarTrue
  unbounded h k m pm =
      let t = far_enough h.0 h.1 p.below k m h.2 o pm in
      (neg_ℤ t.0 *ℤ pos p.below, 1, omega arith, t.1.below, h.3 t.0 1 (omega arith) t.1.above)

  bounded : ¬ IsFarTrue → NoneOf (field_points Lower z g) ⊎ BestOf (field_points Lower z g) → IsInfeasible z g p ⊎ ((k : ℤ) × (m : ℕ) × 0 < m × IsLeast z g p k m)
  unfolding NoneOf
  bounded n (inl none) = inl (λ k m h t. let r = down n k m h t in none (Exact r.e r.d) r.listed r.here)
  bounded n (inr b) = inr (
    b.k,
    b.m,
    b.positive,
    record {
      holds = b.true_there;
      least = λ j l h less t.
          let r = down n j l h t in
          over b.k b.m j l less (at_most_at_most b.k (pos b.m) (value r.e p) (pos r.d) j (pos l) (pos_positive b.positive) (pos_positive r.here.0) (pos_positive h) (b.first (Exact r.e r.d) r.listed r.here) r.before);
    },
  )
    where
      over : (k : ℤ) (m : ℕ) (j : ℤ) (l : ℕ) → IsLess j l k m → (k *ℤ pos l) ≤ℤ (j *ℤ pos m) → ⊥
      over k m j l a b = omega (arith, ints)

  pub three_cases : IsInfeasible z g p ⊎ (IsUnbounded z g p ⊎ ((k : ℤ) × (m : ℕ) × 0 < m × IsLeast z g p k m))
  three_cases =
      ⊎_elim (λ h. inr (inl (unbounded h))) (λ n. ⊎_elim (λ i. inl i) (λ l. inr (inr l)) (bounded n (best (field_points Lower z g)))) far_decided

-- ---- names that are eliminated

module _ (z : ℕ) (f g : Tree) (p : Point ℕ) (o : Of Fields p) (e : Equivalent Fields f g) where
  pub there : (k : ℤ) (m : ℕ) → 0 < m → TargetAt z f p k m ↔ TargetAt z g p k m
  there k m h = e (move nat_eq p z k m) (moved_of Fields p z k m o h)

  -- equivalent formulas have one least value
  pub least_along : (k : ℤ) (m : ℕ) → 0 < m → IsLeast z g p k m → IsLeast z f p k m
  least_along k m h l = record { holds = (there k m h).1 l.holds; least = λ j n i less t. l.least j n i less ((there j n i).0 t) }

  cases_along : IsInfeasible z g p ⊎ (IsUnbounded z g p ⊎ ((k : ℤ) × (m : ℕ) × 0 < m × IsLeast z g p k m)) → IsInfeasible z f p ⊎ (IsUnbounded z f p ⊎ ((k : ℤ) × (m : ℕ) × 0 < m × IsLeast z f p k m))
  cases_along (inl i) = inl (λ k m h t. i k m h ((there k m h).0 t))
  cases_along (inr (inl u)) = inr (inl (λ k m h. let r = u k m h in (r.0, r.1, r.2, r.3, (there r.0 r.1 r.2).1 r.4)))
  cases_along (inr (inr l)) = inr (inr (l.0, l.1, l.2, least_along l.0 l.1 l.2 l.3))

pub targets_have_least : WeakTargetsHaveLeast
targets_have_least z xs f p s w o =
    let r = stays_weak xs f s w in
    cases_along z (exs xs f) r.0 p o r.1.equivalent (three_cases z r.0 p r.1.is_plain r.1.weak o)

pub targets_suit : WeakTargetsSuit
targets_suit z xs f p s w o false_far k m h t = go (targets_have_least z xs f p s w o)
  where
    go : IsInfeasible z (exs xs f) p ⊎ (IsUnbounded z (exs xs f) p ⊎ ((k : ℤ) × (m : ℕ) × 0 < m × IsLeast z (exs xs f) p k m)) → (j : ℤ) × (n : ℕ) × 0 < n × IsLeast z (exs xs f) p j n
    go (inl i) = absurd (i k m h t)
    go (inr (inl u)) = let r = u false_far.0 false_far.1 false_far.2 in absurd (false_far.3 r.0 r.1 r.2 r.3 r.4)
    go (inr (inr l)) = l
