-- Down from a value at which a formula is true: it is true at all below, or down to a critical value.
use Rattle.std.proofs.Common.{◌≡◌, ℕ, suc, zero, ◌+◌, ◌<◌, ◌/◌, Some, sym, ap, ◌∙◌, subst, refl, arith, ◌⊎◌, inl, inr, ⊎_elim, ◌↔◌, nat_eq, unsigned_abs}
use Rattle.std.proofs.Math.IntN.{ℤ, pos, negsuc, ◌+ℤ◌, ◌-ℤ◌, ◌*ℤ◌}
use Rattle.std.specs.Prelude.{◌<ℤ◌, ◌≤ℤ◌}
use Rattle.std.proofs.lemmas.Int.{ints}
use Rattle.exact_numbers.specs.Frac.{Frac, IsProper}
use Rattle.exact_numbers.proofs.Order.{cancel}
use Rattle.exact_numbers.proofs.Ring.{ring, mul_zero, mul_add, add_mul, sub_mul, mul_comm}
use Rattle.logic_meaning.specs.Context.{Fields}
use Rattle.logic_meaning.specs.Point.{move}
use Rattle.logic_meaning.specs.Form.{Form, value, coefficient, without, scale}
use Rattle.logic_meaning.specs.Formula.{Yes, No, One, Not, And, Or, Impl, Repl, Equiv, Ex, All, none, also}
use Rattle.logic_meaning.specs.Some.{Among}
use Rattle.logic_meaning.specs.Every.{Every}
use Rattle.logic_meaning.specs.Shape.{IsQuantifierFree, AreQuantifierFree}
use Rattle.logic_meaning.specs.Plain.{IsPlain, ArePlain, IsNegationNormal, AreNegationNormal}
use Rattle.logic_meaning.specs.Atom.{Atom, Compare, Congruent, Relation, Equals, Differs, Below, AtMost, Above, AtLeast, mirrored}
use Rattle.formula_laws.specs.TheoryAtoms.{AtomIn, opposite}
use Rattle.logic_meaning.specs.Answer.{Place, Exact, AboveBy, BelowBy, PlusInfinity, MinusInfinity, Periodic}
use Rattle.logic_meaning.specs.Tree.{Tree, Trees}
use Rattle.formula_laws.specs.Equivalence.{InContext, negation_normal}
use Rattle.formula_laws.proofs.EachAtom.{every_map}
use Rattle.formula_laws.proofs.Listed.{among_some}
use Rattle.formula_laws.proofs.NormalShape.{normal_form_shape, normal_form_quantifier_free, normal_form_every}
use Rattle.formula_laws.proofs.TreeNormal.{opposite_in}
use Rattle.formula_laws.proofs.TreeReplacing.{moved_of}
use Rattle.logic_meaning.specs.declared.side.Side.TheVariants.{Lower}
use Rattle.logic_meaning.specs.Atoms.{atoms_in}
use Rattle.logic_meaning.specs.FieldsPoints.{ends_of, comparison_points, atom_points, form_over, divisor_of}
use Rattle.logic_meaning.specs.FieldsOrder.{IsLess}
use Rattle.elimination_theory.proofs.AtomsDecided.{atom_opposite}
use Rattle.elimination_theory.proofs.BothTheories.{normal_form_true}
use Rattle.elimination_theory.proofs.FieldsLine.{line_positive, line_negative}
use Rattle.elimination_theory.proofs.FieldsCut.{Covers, NotAfter}
use Rattle.elimination_theory.proofs.FieldsBegin.{Begins, IsOfSide, cut_of, formula_begins}
use Rattle.elimination_theory.proofs.FieldsMeet.{pos_positive}
use Rattle.elimination_theory.proofs.FieldsSuffice.{every_listed}
use Rattle.elimination_theory.proofs.Fractions.{at_most_at_most, at_most_less}
use Rattle.logic_meaning.specs.Values.{origin}
use Rattle.logic_meaning.specs.Calculated.{root_of, atom_root, critical_values}
use Rattle.sample_reference.proofs.Critical.{root_is, root_there, to_atom}
use Rattle.sample_reference.proofs.SamePoints.{abs_positive, abs_above}
use Rattle.logic_meaning.specs.Target.{TargetAt, IsLeast}
use Rattle.linear_theory.proofs.Told.{line}

-- two zeros of one line are one number
one_zero : (a t n d k m : ℤ) → ¬ (a ≡ pos 0) → a *ℤ n +ℤ t *ℤ d ≡ pos 0 → a *ℤ k +ℤ t *ℤ m ≡ pos 0 → n *ℤ m ≡ k *ℤ d
one_zero a t n d k m h e f =
    let g = simp ring at (ap (λ z. m *ℤ z) e ∙ mul_zero m) in
    let q = simp ring at (ap (λ z. d *ℤ z) f ∙ mul_zero d) in
    let both : a *ℤ (n *ℤ m) ≡ a *ℤ (k *ℤ d) = simp ring (omega (arith, ints, g, q)) in
    cancel a h both

same_at_most : (a b : ℤ) → a ≡ b → a ≤ℤ b
same_at_most a b e = omega (arith, ints)

less_so : (a b : ℤ) → a <ℤ b → a ≤ℤ b
less_so a b h = omega (arith, ints)

-- ---- the places of a formula, as critical values

module _ (z : ℕ) (f : Tree) where
  -- the form over the denominator is a critical value
  record HasRoot (e : Form) (d : ℕ) : Type 0 where
    root : Frac
    among : Among (critical_values z (atoms_in f)) root
    proper : IsProper root
    same : root.numerator *ℤ pos d ≡ value e origin *ℤ root.denominator

  abbrev IsRooted : Place → Type 0
  IsRooted (Exact e d) = HasRoot e d
  IsRooted (AboveBy e d) = HasRoot e d
  IsRooted (BelowBy e d) = ⊥
  IsRooted PlusInfinity = ⊥
  IsRooted MinusInfinity = Unit {0}
  IsRooted (Periodic a q) = ⊥

  ends_rooted : (r : Relation) (e : Form) (d : ℕ) → HasRoot (form_over (divisor_of e d) e) (d / divisor_of e d) → (q : Place) → Among (ends_of Lower r e d) q → IsRooted q
  ends_rooted Equals e d h q (inl i) = subst IsRooted i h
  ends_rooted Equals e d h q (inr i) = absurd i
  ends_rooted Differs e d h q (inl i) = subst IsRooted i h
  ends_rooted Differs e d h q (inr i) = absurd i
  ends_rooted Below e d h q i = absurd i
  ends_rooted AtMost e d h q i = absurd i
  ends_rooted Above e d h q (inl i) = subst IsRooted i h
  ends_rooted Above e d h q (inr i) = absurd i
  ends_rooted AtLeast e d h q (inl i) = subst IsRooted i h
  ends_rooted AtLeast e d h q (inr i) = absurd i

  -- the root of the form is among the critical values
  RootListed : Form → Type 0
  RootListed g = (w : Frac) → root_of (coefficient z g) g.constant ≡ Some w → Among (critical_values z (atoms_in f)) w

  -- where the form is 0
  zero_rooted : (g : Form) → RootListed g → ¬ (coefficient z g ≡ pos 0) → (e : Form) (d : ℕ) → value g (move nat_eq origin z (value e origin) d) ≡ pos 0 → HasRoot e d
  unfolding RootListed
  zero_rooted g l n e d h =
      let w = root_there (coefficient z g) g.constant n in
      let i = root_is (coefficient z g) g.constant w.0 w.1 in
      record {
        root = w.0;
        among = l w.0 w.1;
        proper = i.proper;
        same = one_zero (coefficient z g) g.constant w.0.numerator w.0.denominator (value e origin) (pos d) n i.zero_there (sym (line z g (value e origin) d) ∙ h);
      }

  not_zero : (c : ℤ) (n : ℕ) → c ≡ pos (suc n) → ¬ (c ≡ pos 0)
  not_zero c n e h = absurd (omega (arith, ints))

  not_zero_below : (c : ℤ) (n : ℕ) → c ≡ negsuc n → ¬ (c ≡ pos 0)
  not_zero_below c n e h = absurd (omega (arith, ints))

  comparison_rooted : (r : Relation) (g : Form) → RootListed g → (q : Place) → Among (comparison_points Lower (coefficient z g) r (without z g)) q → IsRooted q
  comparison_rooted r g l q i = go (coefficient z g) refl i
    where
      go : (c : ℤ) → coefficient z g ≡ c → Among (comparison_points Lower c r (without z g)) q → IsRooted q
      go (pos zero) e i = absurd i
      go (pos (suc n)) e i =
          let s : Form = scale (negsuc 0) (without z g) in
          let o : Form = form_over (divisor_of s (suc n)) s in
          ends_rooted r s (suc n) (zero_rooted g l (not_zero (coefficient z g) n e) o (suc n / divisor_of s (suc n)) ((line_positive Equals g origin z n e (value o origin) (suc n / divisor_of s (suc n))).1 refl)) q i
      go (negsuc n) e i =
          let s : Form = without z g in
          let o : Form = form_over (divisor_of s (suc n)) s in
          ends_rooted (mirrored r) s (suc n) (zero_rooted g l (not_zero_below (coefficient z g) n e) o (suc n / divisor_of s (suc n)) ((line_negative Equals g origin z n e (value o origin) (suc n / divisor_of s (suc n))).1 refl)) q i

  -- each test point of the atom is a critical value, or minus infinity
  abbrev PointsRooted : Atom → Type 0
  PointsRooted a = (q : Place) → Among (atom_points Lower z a) q → IsRooted q

  both_rooted : (a : Atom) → Among (atoms_in f) a → PointsRooted a × PointsRooted (opposite a)
  unfolding RootListed
  both_rooted (Compare r g) m =
      let l : RootListed g = λ w e. to_atom z origin (atoms_in f) w (among_some (λ a. atom_root z a ≡ Some w) (atoms_in f) (Compare r g) m e) in
      (comparison_rooted r g l, comparison_rooted _ g l)
  both_rooted (Congruent holds n g) m = (λ q i. absurd i, λ q i. absurd i)

  normal_rooted : Every PointsRooted (negation_normal f)
  normal_rooted = (normal_form_every opposite PointsRooted f (every_listed (λ a. PointsRooted a × PointsRooted (opposite a)) f both_rooted)).0

-- ---- the negation normal form

mutual
  plain_form : (f : Tree) → IsNegationNormal f → IsQuantifierFree f → IsPlain f
  plain_form Yes n s = tt
  plain_form No n s = tt
  plain_form (One a) n s = tt
  plain_form (Not f) n s = absurd n
  plain_form (And fs) n s = plain_forms fs n s
  plain_form (Or fs) n s = plain_forms fs n s
  plain_form (Impl f g) n s = absurd n
  plain_form (Repl f g) n s = absurd n
  plain_form (Equiv f g) n s = absurd n
  plain_form (Ex x f) n s = absurd s
  plain_form (All x f) n s = absurd s

  plain_forms : (fs : Trees) → AreNegationNormal fs → AreQuantifierFree fs → ArePlain fs
  plain_forms none n s = tt
  plain_forms (also f fs) n s = (plain_form f n.0 s.0, plain_forms fs n.1 s.1)

-- ---- down from a true value

module _ (z : ℕ) (f : Tree) (s : IsQuantifierFree f) (inside : InContext Fields f) where
  -- the formula is true at all values up to k/m
  AllBelow : ℤ → ℕ → Type 0
  AllBelow k m = (j : ℤ) (n : ℕ) → 0 < n → (j *ℤ pos m) ≤ℤ (k *ℤ pos n) → TargetAt z f origin j n

  -- the formula is true at the fraction
  abbrev pub TrueThere : Frac → Type 0
  TrueThere v = TargetAt z f origin v.numerator (unsigned_abs v.denominator)

  -- the formula is true between the fraction and k/m
  TrueBetween : Frac → ℤ → ℕ → Type 0
  TrueBetween v k m =
      (v.numerator *ℤ pos m) <ℤ (k *ℤ v.denominator) × ((j : ℤ) (n : ℕ) → 0 < n → (v.numerator *ℤ pos n) <ℤ (j *ℤ v.denominator) → (j *ℤ pos m) ≤ℤ (k *ℤ pos n) → TargetAt z f origin j n)

  -- a critical value that is not after k/m, from which on the formula is true
  record DownTo (k : ℤ) (m : ℕ) : Type 0 where
    root : Frac
    among : Among (critical_values z (atoms_in f)) root
    proper : IsProper root
    before : (root.numerator *ℤ pos m) ≤ℤ (k *ℤ root.denominator)
    fills : TrueThere root ⊎ TrueBetween root k m

  along_normal : (k : ℤ) (m : ℕ) → 0 < m → TargetAt z f origin k m ↔ TargetAt z (negation_normal f) origin k m
  along_normal k m h =
      (normal_form_true Fields opposite f (move nat_eq origin z k m) inside (every_map (AtomIn Fields) _ (λ a i p o. atom_opposite Fields a p i o) f inside) (moved_of Fields origin z k m (omega arith) h)).0

  module _ (k : ℤ) (m : ℕ) (h : 0 < m) where
    from_place : (q : Place) → IsRooted z f q → IsOfSide Lower q → Covers Lower (cut_of origin q) k m →
        ((j : ℤ) (l : ℕ) → 0 < l → Covers Lower (cut_of origin q) j l → NotAfter Lower (j *ℤ pos m) (k *ℤ pos l) → TargetAt z f origin j l) → AllBelow k m ⊎ DownTo k m
    unfolding AllBelow TrueBetween
    from_place (Exact e d) r i c t =
        let v : Frac = r.root in
        let b : (v.numerator *ℤ pos m) ≤ℤ (k *ℤ v.denominator) =
        at_most_at_most v.numerator v.denominator (value e origin) (pos d) k (pos m) r.proper i (pos_positive h) (same_at_most (v.numerator *ℤ pos d) (value e origin *ℤ v.denominator) r.same) c in
        let a : pos (unsigned_abs v.denominator) ≡ v.denominator = abs_positive v.denominator r.proper in
        inr (record {
          root = v;
          among = r.among;
          proper = r.proper;
          before = b;
          fills = inl (t v.numerator (unsigned_abs v.denominator) (abs_above v.denominator r.proper)
              (same_at_most (value e origin *ℤ pos (unsigned_abs v.denominator)) (v.numerator *ℤ pos d) (ap (λ y. value e origin *ℤ y) a ∙ sym r.same))
              (subst (λ y. (v.numerator *ℤ pos m) ≤ℤ (k *ℤ y)) (sym a) b));
        })
    from_place (AboveBy e d) r i c t =
        let v : Frac = r.root in
        let b : (v.numerator *ℤ pos m) <ℤ (k *ℤ v.denominator) =
        at_most_less v.numerator v.denominator (value e origin) (pos d) k (pos m) r.proper i (pos_positive h) (same_at_most (v.numerator *ℤ pos d) (value e origin *ℤ v.denominator) r.same) c in
        inr (record {
          root = v;
          among = r.among;
          proper = r.proper;
          before = less_so (v.numerator *ℤ pos m) (k *ℤ v.denominator) b;
          fills = inr (
            b,
            λ j n g l u. t j n g
                (at_most_less (value e origin) (pos d) v.numerator v.denominator j (pos n) i r.proper (pos_positive g) (same_at_most (value e origin *ℤ v.denominator) (v.numerator *ℤ pos d) (sym r.same)) l) u,
          );
        })
    from_place (BelowBy e d) r i c t = absurd r
    from_place PlusInfinity r i c t = absurd r
    from_place MinusInfinity r i c t = inl (λ j n g u. t j n g tt u)
    from_place (Periodic a q) r i c t = absurd r

    down : TargetAt z f origin k m → AllBelow k m ⊎ DownTo k m
    down t =
        let g = negation_normal f in
        let p : IsPlain g = plain_form g (normal_form_shape opposite f).0 (normal_form_quantifier_free opposite f s).0 in
        let c : InContext Fields g = (normal_form_every opposite (AtomIn Fields) f (every_map (AtomIn Fields) _ (λ a i. (i, opposite_in Fields a i)) f inside)).0 in
        let b : Begins Lower (IsRooted z f) origin (λ j l. TargetAt z g origin j l) k m =
        formula_begins Lower (IsRooted z f) origin z tt k m (pos_positive h) g p c (normal_rooted z f) ((along_normal k m h).0 t) in
        from_place b.place b.listed b.of_side b.covers (λ j l i u v. (along_normal j l i).1 (b.fills j l (pos_positive i) u v))

  -- ---- the least value

  one_less : (k : ℤ) (m : ℕ) → 0 < m → IsLess (k -ℤ pos 1) m k m
  one_less k m h = let a = sub_mul k (pos 1) (pos m) in let b = mul_comm (pos 1) (pos m) in omega (arith, ints)

  -- a number between two
  mediant_above : (n d k m : ℤ) → (n *ℤ m) <ℤ (k *ℤ d) → (n *ℤ (d +ℤ m)) <ℤ ((n +ℤ k) *ℤ d)
  mediant_above n d k m h = let a = mul_add n d m in let b = add_mul n k d in omega (arith, ints)

  mediant_below : (n d k m : ℤ) → (n *ℤ m) <ℤ (k *ℤ d) → ((n +ℤ k) *ℤ m) <ℤ (k *ℤ (d +ℤ m))
  mediant_below n d k m h = let a = mul_add k d m in let b = add_mul n k m in omega (arith, ints)

  -- a least value has a critical value at which the formula is true and which is not after it
  pub record RootOf (k : ℤ) (m : ℕ) : Type 0 where
    pub root : Frac
    pub among : Among (critical_values z (atoms_in f)) root
    pub proper : IsProper root
    pub before : (root.numerator *ℤ pos m) ≤ℤ (k *ℤ root.denominator)
    pub true_there : TrueThere root

  pub least_root : (k : ℤ) (m : ℕ) → 0 < m → IsLeast z f origin k m → RootOf k m
  unfolding AllBelow TrueBetween
  least_root k m h l = ⊎_elim all some (down k m h l.holds)
    where
      all : AllBelow k m → RootOf k m
      all a = let less = one_less k m h in absurd (l.least (k -ℤ pos 1) m h less (a (k -ℤ pos 1) m h (less_so ((k -ℤ pos 1) *ℤ pos m) (k *ℤ pos m) less)))

      some : DownTo k m → RootOf k m
      some b = ⊎_elim there between b.fills
        where
          there : TrueThere b.root → RootOf k m
          there t = record { root = b.root; among = b.among; proper = b.proper; before = b.before; true_there = t }

          between : TrueBetween b.root k m → RootOf k m
          between t =
              let v : Frac = b.root in
              let n : ℕ = unsigned_abs v.denominator + m in
              let e : v.denominator +ℤ pos m ≡ pos n = sum_of v.denominator (unsigned_abs v.denominator) m (abs_positive v.denominator b.proper) in
              let above = subst (λ y. (v.numerator *ℤ y) <ℤ ((v.numerator +ℤ k) *ℤ v.denominator)) e (mediant_above v.numerator v.denominator k (pos m) t.0) in
              let below = subst (λ y. ((v.numerator +ℤ k) *ℤ pos m) <ℤ (k *ℤ y)) e (mediant_below v.numerator v.denominator k (pos m) t.0) in
              let pn : 0 < n = omega arith in
              absurd (l.least (v.numerator +ℤ k) n pn below (t.1 (v.numerator +ℤ k) n pn above (less_so ((v.numerator +ℤ k) *ℤ pos m) (k *ℤ pos n) below)))
            where
              sum_of : (d : ℤ) (a m : ℕ) → pos a ≡ d → d +ℤ pos m ≡ pos (a + m)
              sum_of d a m e = omega (arith, ints)
