-- Where a formula is true at a value of the name, it is true from a listed test point up to that value.
use Rattle.std.proofs.Common.{◌≡◌, ℕ, suc, zero, ◌<◌, sym, refl, arith, inl, inr, ⊎_elim, ◌↔◌, nat_eq}
use Rattle.std.proofs.Math.IntN.{ℤ, pos, negsuc, ◌*ℤ◌}
use Rattle.std.specs.Prelude.{◌<ℤ◌}
use Rattle.logic_meaning.specs.Context.{Fields}
use Rattle.logic_meaning.specs.Point.{Point, move}
use Rattle.logic_meaning.specs.Form.{Form, value, coefficient, without, scale}
use Rattle.logic_meaning.specs.Formula.{Yes, No, One, Not, And, Or, Impl, Repl, Equiv, Ex, All, none, also}
use Rattle.logic_meaning.specs.Truth.{AllTrue, SomeTrue}
use Rattle.logic_meaning.specs.Every.{Every, EveryOf}
use Rattle.logic_meaning.specs.Plain.{IsPlain, ArePlain}
use Rattle.logic_meaning.specs.Atom.{Compare, Congruent, Relation, Equals, Differs, Below, AtMost, Above, AtLeast, Relates, Says, mirrored}
use Rattle.formula_laws.specs.TheoryAtoms.{AtomIn}
use Rattle.logic_meaning.specs.Answer.{Place, Exact, AboveBy, BelowBy, PlusInfinity, MinusInfinity, Periodic}
use Rattle.logic_meaning.specs.Tree.{Tree, Trees, TrueAt}
use Rattle.formula_laws.specs.Equivalence.{InContext}
use Rattle.logic_meaning.specs.Side.{turned}
use Rattle.logic_meaning.specs.declared.side.Side.{Side}
use Rattle.logic_meaning.specs.declared.side.Side.TheVariants.{Lower, Upper}
use Rattle.logic_meaning.specs.FieldsPoints.{exact_point, beside_point, ends_of, comparison_points, atom_points, infinity_of}
use Rattle.elimination_theory.proofs.FieldsCut.{Before, NotAfter, Cut, Everywhere, From, After, IsProper, Covers, Within, one_within, Seen, seen, same_not_after, before_differs, both_not_after, by_sides, not_after_before, not_after_not_after}
use Rattle.elimination_theory.proofs.FieldsLine.{over, under, line_positive, line_negative, comparison_still}
use Rattle.elimination_theory.proofs.LowestTerms.{lowest}
use Rattle.logic_meaning.specs.Some.{Among}

-- where the interval of a place begins, at the point
abbrev pub cut_of : Point ℕ → Place → Cut
cut_of p (Exact e d) = From (value e p) d
cut_of p (AboveBy e d) = After (value e p) d
cut_of p (BelowBy e d) = After (value e p) d
cut_of p PlusInfinity = Everywhere
cut_of p MinusInfinity = Everywhere
cut_of p (Periodic a q) = Everywhere

-- a place of the side, with a positive denominator
abbrev pub IsOfSide : Side → Place → Type 0
IsOfSide side (Exact e d) = pos 0 <ℤ pos d
IsOfSide Lower (AboveBy e d) = pos 0 <ℤ pos d
IsOfSide Upper (AboveBy e d) = ⊥
IsOfSide Lower (BelowBy e d) = ⊥
IsOfSide Upper (BelowBy e d) = pos 0 <ℤ pos d
IsOfSide Lower PlusInfinity = ⊥
IsOfSide Upper PlusInfinity = Unit {0}
IsOfSide Lower MinusInfinity = Unit {0}
IsOfSide Upper MinusInfinity = ⊥
IsOfSide side (Periodic a q) = ⊥

pub proper : (side : Side) (p : Point ℕ) (s : Place) → IsOfSide side s → IsProper (cut_of p s)
proper side p (Exact e d) h = h
proper Lower p (AboveBy e d) h = h
proper Upper p (AboveBy e d) h = absurd h
proper Lower p (BelowBy e d) h = absurd h
proper Upper p (BelowBy e d) h = h
proper side p PlusInfinity h = tt
proper side p MinusInfinity h = tt
proper side p (Periodic a q) h = tt

-- T holds from a listed place of the side up to the fraction k/m
pub record Begins (side : Side) (L : Place → Type 0) (p : Point ℕ) (T : ℤ → ℕ → Type 0) (k : ℤ) (m : ℕ) : Type 0 where
  pub place : Place
  pub listed : L place
  pub of_side : IsOfSide side place
  pub covers : Covers side (cut_of p place) k m
  pub fills : (j : ℤ) (n : ℕ) → pos 0 <ℤ pos n → Covers side (cut_of p place) j n → NotAfter side (j *ℤ pos m) (k *ℤ pos n) → T j n

-- the infinity covers all
of_infinity : (side : Side) → IsOfSide side (infinity_of side)
of_infinity Lower = tt
of_infinity Upper = tt

infinity_covers : (side : Side) (p : Point ℕ) (k : ℤ) (m : ℕ) → Covers side (cut_of p (infinity_of side)) k m
infinity_covers Lower p k m = tt
infinity_covers Upper p k m = tt

everywhere : (side : Side) (L : Place → Type 0) (p : Point ℕ) (T : ℤ → ℕ → Type 0) (k : ℤ) (m : ℕ) → L (infinity_of side) →
    ((j : ℤ) (n : ℕ) → pos 0 <ℤ pos n → NotAfter side (j *ℤ pos m) (k *ℤ pos n) → T j n) → Begins side L p T k m
everywhere side L p T k m l h = record { place = infinity_of side; listed = l; of_side = of_infinity side; covers = infinity_covers side p k m; fills = λ j n q c b. h j n q b }

of_beside : (side : Side) (e : Form) (d : ℕ) → pos 0 <ℤ pos (under e d) → IsOfSide side (beside_point side e d)
of_beside Lower e d h = h
of_beside Upper e d h = h

beside_covers : (side : Side) (p : Point ℕ) (e : Form) (d : ℕ) (k : ℤ) (m : ℕ) → Covers side (cut_of p (beside_point side e d)) k m ↔ Before side (over e d p *ℤ pos m) (k *ℤ pos (under e d))
beside_covers Lower p e d k m = (λ h. h, λ h. h)
beside_covers Upper p e d k m = (λ h. h, λ h. h)

-- what is true where the fraction is related to the end e/d, as the side sees it
module _ (side : Side) (L : Place → Type 0) (p : Point ℕ) (e : Form) (d : ℕ) (below : pos 0 <ℤ pos (under e d)) (infinite : L (infinity_of side)) (k : ℤ) (m : ℕ) (pm : pos 0 <ℤ pos m) where
  end_begins : (r : Relation) → ((s : Place) → Among (ends_of side r e d) s → L s) → Seen side r (k *ℤ pos (under e d)) (over e d p *ℤ pos m) →
      Begins side L p (λ j n. Seen side r (j *ℤ pos (under e d)) (over e d p *ℤ pos n)) k m
  end_begins Equals l t = record {
    place = exact_point e d;
    listed = l (exact_point e d) (inl refl);
    of_side = below;
    covers = same_not_after side _ _ (sym t);
    fills = λ j n q c b. both_not_after side _ _ (not_after_not_after side j (pos n) k (pos m) (over e d p) (pos (under e d)) q pm below b (same_not_after side _ _ t)) c;
  }
  end_begins Differs l t =
      by_sides side (k *ℤ pos (under e d)) (over e d p *ℤ pos m)
      (λ b. everywhere side L p _ k m infinite (λ j n q a. before_differs side _ _ (not_after_before side j (pos n) k (pos m) (over e d p) (pos (under e d)) q pm below a b)))
      (λ i. absurd (t i))
      (λ b. record {
        place = beside_point side e d;
        listed = l (beside_point side e d) (inl refl);
        of_side = of_beside side e d below;
        covers = (beside_covers side p e d k m).1 b;
        fills = λ j n q c a i. before_differs side _ _ ((beside_covers side p e d j n).0 c) (sym i);
      })
  end_begins Below l t = everywhere side L p _ k m infinite (λ j n q b. not_after_before side j (pos n) k (pos m) (over e d p) (pos (under e d)) q pm below b t)
  end_begins AtMost l t = everywhere side L p _ k m infinite (λ j n q b. not_after_not_after side j (pos n) k (pos m) (over e d p) (pos (under e d)) q pm below b t)
  end_begins Above l t = record {
    place = beside_point side e d;
    listed = l (beside_point side e d) (inl refl);
    of_side = of_beside side e d below;
    covers = (beside_covers side p e d k m).1 t;
    fills = λ j n q c b. (beside_covers side p e d j n).0 c;
  }
  end_begins AtLeast l t = record { place = exact_point e d; listed = l (exact_point e d) (inl refl); of_side = below; covers = t; fills = λ j n q c b. c }

begins_map : {side : Side} {L : Place → Type 0} {p : Point ℕ} (T U : ℤ → ℕ → Type 0) {k : ℤ} {m : ℕ} → ((j : ℤ) (n : ℕ) → pos 0 <ℤ pos n → T j n → U j n) → Begins side L p T k m → Begins side L p U k m
begins_map T U f b = record { place = b.place; listed = b.listed; of_side = b.of_side; covers = b.covers; fills = λ j n q c a. f j n q (b.fills j n q c a) }

-- two facts hold from the later of the two places
begins_both : {side : Side} {L : Place → Type 0} {p : Point ℕ} (T U : ℤ → ℕ → Type 0) {k : ℤ} {m : ℕ} → Begins side L p T k m → Begins side L p U k m → Begins side L p (λ j n. T j n × U j n) k m
begins_both {side} {L} {p} T U {k} {m} a b =
    ⊎_elim
    (λ (w : Within side (cut_of p a.place) (cut_of p b.place)). record { place = a.place; listed = a.listed; of_side = a.of_side; covers = a.covers; fills = λ j n q c h. (a.fills j n q c h, b.fills j n q (w j n q c) h) })
    (λ (w : Within side (cut_of p b.place) (cut_of p a.place)). record { place = b.place; listed = b.listed; of_side = b.of_side; covers = b.covers; fills = λ j n q c h. (a.fills j n q (w j n q c) h, b.fills j n q c h) })
    (one_within side (cut_of p a.place) (cut_of p b.place) (proper side p a.place a.of_side) (proper side p b.place b.of_side))

module _ (side : Side) (L : Place → Type 0) (p : Point ℕ) (x : ℕ) (infinite : L (infinity_of side)) (k : ℤ) (m : ℕ) (pm : pos 0 <ℤ pos m) where
  -- a comparison that says the same as one of the fraction with e/d
  along_line : (r s : Relation) (e : Form) (d : ℕ) (f : Form) → 0 < d →
      ((j : ℤ) (n : ℕ) → Relates r (value f (move nat_eq p x j n)) (pos 0) ↔ Relates s (j *ℤ pos (under e d)) (over e d p *ℤ pos n)) →
      ((q : Place) → Among (ends_of side (turned side s) e d) q → L q) →
      Relates r (value f (move nat_eq p x k m)) (pos 0) → Begins side L p (λ j n. Relates r (value f (move nat_eq p x j n)) (pos 0)) k m
  along_line r s e d f h i l t =
      begins_map (λ j n. Seen side (turned side s) (j *ℤ pos (under e d)) (over e d p *ℤ pos n)) _
      (λ j n q u. (i j n).1 ((seen side s _ _).1 u))
      (end_begins side L p e d (lowest e d h).below_positive infinite k m pm (turned side s) l ((seen side s _ _).0 ((i k m).0 t)))

  comparison_begins : (r : Relation) (f : Form) → ((q : Place) → Among (comparison_points side (coefficient x f) r (without x f)) q → L q) →
      Relates r (value f (move nat_eq p x k m)) (pos 0) → Begins side L p (λ j n. Relates r (value f (move nat_eq p x j n)) (pos 0)) k m
  comparison_begins r f l t = go (coefficient x f) refl l
    where
      go : (c : ℤ) → coefficient x f ≡ c → ((q : Place) → Among (comparison_points side c r (without x f)) q → L q) → Begins side L p (λ j n. Relates r (value f (move nat_eq p x j n)) (pos 0)) k m
      go (pos zero) e l = everywhere side L p _ k m infinite (λ j n q b. (comparison_still r f p x j n e q).1 ((comparison_still r f p x k m e pm).0 t))
      go (pos (suc n)) e l = along_line r r (scale (negsuc 0) (without x f)) (suc n) f (omega arith) (line_positive r f p x n e) l t
      go (negsuc n) e l = along_line r (mirrored r) (without x f) (suc n) f (omega arith) (line_negative r f p x n e) l t

  mutual
    pub formula_begins : (f : Tree) → IsPlain f → InContext Fields f → Every (λ a. (q : Place) → Among (atom_points side x a) q → L q) f →
        TrueAt Fields f (move nat_eq p x k m) → Begins side L p (λ j n. TrueAt Fields f (move nat_eq p x j n)) k m
    formula_begins Yes s c l t = everywhere side L p _ k m infinite (λ j n q b. tt)
    formula_begins No s c l t = absurd t
    formula_begins (One (Compare r f)) s c l t = comparison_begins r f l t
    formula_begins (One (Congruent holds n f)) s c l t = absurd c
    formula_begins (Not f) s c l t = absurd s
    formula_begins (And fs) s c l t = all_begins fs s c l t
    formula_begins (Or fs) s c l t = some_begins fs s c l t
    formula_begins (Impl f g) s c l t = absurd s
    formula_begins (Repl f g) s c l t = absurd s
    formula_begins (Equiv f g) s c l t = absurd s
    formula_begins (Ex y f) s c l t = absurd s
    formula_begins (All y f) s c l t = absurd s

    all_begins : (fs : Trees) → ArePlain fs → EveryOf (AtomIn Fields) fs → EveryOf (λ a. (q : Place) → Among (atom_points side x a) q → L q) fs →
        AllTrue Says (move nat_eq) Fields fs (move nat_eq p x k m) → Begins side L p (λ j n. AllTrue Says (move nat_eq) Fields fs (move nat_eq p x j n)) k m
    all_begins none s c l t = everywhere side L p _ k m infinite (λ j n q b. tt)
    all_begins (also f fs) s c l t = begins_both _ _ (formula_begins f s.0 c.0 l.0 t.0) (all_begins fs s.1 c.1 l.1 t.1)

    some_begins : (fs : Trees) → ArePlain fs → EveryOf (AtomIn Fields) fs → EveryOf (λ a. (q : Place) → Among (atom_points side x a) q → L q) fs →
        SomeTrue Says (move nat_eq) Fields fs (move nat_eq p x k m) → Begins side L p (λ j n. SomeTrue Says (move nat_eq) Fields fs (move nat_eq p x j n)) k m
    some_begins none s c l t = absurd t
    some_begins (also f fs) s c l (inl t) = begins_map _ _ (λ j n q u. inl u) (formula_begins f s.0 c.0 l.0 t)
    some_begins (also f fs) s c l (inr t) = begins_map _ _ (λ j n q u. inr u) (some_begins fs s.1 c.1 l.1 t)
