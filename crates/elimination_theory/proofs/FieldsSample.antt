-- Over the ordered fields a formula that holds at a place is true at the place's sample.
use Rattle.std.proofs.Common.{◌≡◌, ℕ, suc, zero, ◌*◌, ◌<◌, ap, sym, ◌∙◌, subst₂, refl, arith, inl, inr, ◌↔◌, nat_eq, mul-pos, Bool, true, false, if◌then◌else◌}
use Rattle.std.proofs.Math.IntN.{ℤ, pos, negsuc, ◌+ℤ◌, ◌-ℤ◌, ◌*ℤ◌}
use Rattle.std.specs.Prelude.{◌<ℤ◌}
use Rattle.std.proofs.lemmas.Int.{ints}
use Rattle.exact_numbers.proofs.Ring.{ring, mul_comm, mul_assoc, mul_left_comm, add_mul, sub_mul}
use Rattle.exact_numbers.proofs.Order.{mul_less, cancel_less, mul_positive}
use Rattle.logic_meaning.specs.Context.{Fields}
use Rattle.logic_meaning.specs.Point.{Point, Of, move}
use Rattle.formula_laws.specs.Points.{IsSamePoint}
use Rattle.logic_meaning.specs.Form.{Form, value, coefficient, without, scale}
use Rattle.logic_meaning.specs.Every.{Every}
use Rattle.logic_meaning.specs.Plain.{IsPlain}
use Rattle.logic_meaning.specs.Atom.{Atom, Compare, Congruent, Relation, Equals, Differs, Below, AtMost, Above, AtLeast, Relates, Says, mirrored, form_of}
use Rattle.formula_laws.specs.TheoryAtoms.{AtomIn}
use Rattle.logic_meaning.specs.Answer.{Place, Exact, AboveBy, BelowBy, PlusInfinity, MinusInfinity, Periodic, Holds}
use Rattle.logic_meaning.specs.Tree.{Tree, TrueAt}
use Rattle.formula_laws.specs.Equivalence.{InContext}
use Rattle.formula_laws.proofs.Values.{pos_mul}
use Rattle.formula_laws.proofs.TreeFiner.{tree_same_point}
use Rattle.formula_laws.proofs.EachAtom.{every_both}
use Rattle.formula_laws.proofs.PlainTruth.{plain_truth}
use Rattle.logic_meaning.specs.declared.side.Side.{Side}
use Rattle.logic_meaning.specs.declared.side.Side.TheVariants.{Lower, Upper}
use Rattle.logic_meaning.specs.Atoms.{atoms_of}
use Rattle.logic_meaning.specs.FieldsSubstitution.{IsFieldPlace}
use Rattle.elimination_theory.specs.AtPlace.{at_place}
use Rattle.elimination_theory.specs.FieldsSamples.{NoCritical, IsJustPast, IsJustShort, IsBelowAll, IsAboveAll, IsFieldSample}
use Rattle.formula_laws.proofs.Listed.{among_some}
use Rattle.elimination_theory.proofs.Fractions.{less_at_most, at_most_less}
use Rattle.elimination_theory.proofs.FieldsCut.{Before, NotAfter, Covers, by_before, not_after_before, before_not_after_before, covers_on}
use Rattle.elimination_theory.proofs.FieldsLine.{over, under, line_positive, line_negative, comparison_still}
use Rattle.elimination_theory.proofs.LowestTerms.{lowest}
use Rattle.elimination_theory.proofs.FieldsBegin.{IsOfSide, cut_of, proper}
use Rattle.elimination_theory.proofs.FieldsMeet.{Near, near_meets, near_some, place_near, field_place, pos_positive, positive_pos}
use Rattle.elimination_theory.proofs.FieldsNear.{small_both, large_both}
use Rattle.elimination_theory.proofs.FieldsSuffice.{every_atom}
use Rattle.formula_laws.proofs.TreeReplacing.{moved_of}

near_both : (s : Place) (T U : ℤ → ℕ → Type 0) (p : Point ℕ) → Near p s T → Near p s U → Near p s (λ k m. T k m × U k m)
near_both (Exact e d) T U p t u = (t, u)
near_both (AboveBy e d) T U p t u = small_both _ _ t u
near_both (BelowBy e d) T U p t u = small_both _ _ t u
near_both PlusInfinity T U p t u = large_both _ _ t u
near_both MinusInfinity T U p t u = large_both _ _ t u
near_both (Periodic a q) T U p t u = absurd t

-- two numbers in the same order as two others have the same relations
relates_less : (r : Relation) (a b c d : ℤ) → a <ℤ b → c <ℤ d → Relates r a b → Relates r c d
relates_less Equals a b c d h k t = absurd (omega (arith, ints))
relates_less Differs a b c d h k t = λ (e : c ≡ d). absurd (omega (arith, ints))
relates_less Below a b c d h k t = k
relates_less AtMost a b c d h k t = omega (arith, ints)
relates_less Above a b c d h k t = absurd (omega (arith, ints))
relates_less AtLeast a b c d h k t = absurd (omega (arith, ints))

relates_more : (r : Relation) (a b c d : ℤ) → b <ℤ a → d <ℤ c → Relates r a b → Relates r c d
relates_more Equals a b c d h k t = absurd (omega (arith, ints))
relates_more Differs a b c d h k t = λ (e : c ≡ d). absurd (omega (arith, ints))
relates_more Below a b c d h k t = absurd (omega (arith, ints))
relates_more AtMost a b c d h k t = absurd (omega (arith, ints))
relates_more Above a b c d h k t = k
relates_more AtLeast a b c d h k t = omega (arith, ints)

relates_before : (side : Side) (r : Relation) (a b c d : ℤ) → Before side a b → Before side c d → Relates r a b → Relates r c d
relates_before Lower r a b c d h k t = relates_less r a b c d h k t
relates_before Upper r a b c d h k t = relates_more r a b c d h k t

relates_after : (side : Side) (r : Relation) (a b c d : ℤ) → Before side b a → Before side d c → Relates r a b → Relates r c d
relates_after Lower r a b c d h k t = relates_more r a b c d h k t
relates_after Upper r a b c d h k t = relates_less r a b c d h k t

-- from j/n on to k/m
module _ (side : Side) (p : Point ℕ) (x : ℕ) (j : ℤ) (n : ℕ) (k : ℤ) (m : ℕ) (pn : pos 0 <ℤ pos n) (pm : pos 0 <ℤ pos m) (forth : NotAfter side (j *ℤ pos m) (k *ℤ pos n)) where
  -- a comparison whose own point is not on the way keeps its truth
  along_way : (r s : Relation) (e : Form) (d : ℕ) (f : Form) → 0 < d →
      ((i : ℤ) (l : ℕ) → Relates r (value f (move nat_eq p x i l)) (pos 0) ↔ Relates s (i *ℤ pos (under e d)) (over e d p *ℤ pos l)) →
      (NotAfter side (j *ℤ pos (under e d)) (over e d p *ℤ pos n) → NotAfter side (over e d p *ℤ pos m) (k *ℤ pos (under e d)) → ⊥) →
      Relates r (value f (move nat_eq p x j n)) (pos 0) → Relates r (value f (move nat_eq p x k m)) (pos 0)
  along_way r s e d f pd line clear t =
      let pu : pos 0 <ℤ pos (under e d) = (lowest e d pd).below_positive in
      let z = (line j n).0 t in
      (line k m).1
      (by_before side (k *ℤ pos (under e d)) (over e d p *ℤ pos m)
      (λ b. relates_before side s _ _ _ _ (not_after_before side j (pos n) k (pos m) (over e d p) (pos (under e d)) pn pm pu forth b) b z)
      (λ a. by_before side (over e d p *ℤ pos n) (j *ℤ pos (under e d))
      (λ b. relates_after side s _ _ _ _ b (before_not_after_before side (over e d p) (pos (under e d)) j (pos n) k (pos m) pu pn pm b forth) z)
      (λ b. absurd (clear b a))))

  comparison_stays : (r : Relation) (f : Form) →
      ((i : ℤ) (l : ℕ) → 0 < l → NotAfter side (j *ℤ pos l) (i *ℤ pos n) → NotAfter side (i *ℤ pos m) (k *ℤ pos l) → ¬ (¬ (coefficient x f ≡ pos 0) × (value f (move nat_eq p x i l) ≡ pos 0))) →
      Relates r (value f (move nat_eq p x j n)) (pos 0) → Relates r (value f (move nat_eq p x k m)) (pos 0)
  comparison_stays r f clear t = go (coefficient x f) refl
    where
      -- the comparison's own point is e over d
      on_way : (e : Form) (d : ℕ) → 0 < d → ¬ (coefficient x f ≡ pos 0) → value f (move nat_eq p x (over e d p) (under e d)) ≡ pos 0 →
          NotAfter side (j *ℤ pos (under e d)) (over e d p *ℤ pos n) → NotAfter side (over e d p *ℤ pos m) (k *ℤ pos (under e d)) → ⊥
      on_way e d pd c v a b = clear (over e d p) (under e d) (positive_pos ((lowest e d pd).below_positive)) a b (c, v)

      go : (c : ℤ) → coefficient x f ≡ c → Relates r (value f (move nat_eq p x k m)) (pos 0)
      go (pos zero) e = (comparison_still r f p x k m e pm).1 ((comparison_still r f p x j n e pn).0 t)
      go (pos (suc c)) e =
          along_way r r (scale (negsuc 0) (without x f)) (suc c) f (omega arith) (line_positive r f p x c e)
          (on_way (scale (negsuc 0) (without x f)) (suc c) (omega arith) (λ (z : coefficient x f ≡ pos 0). absurd (omega (arith, ints))) ((line_positive Equals f p x c e _ _).1 refl)) t
      go (negsuc c) e =
          along_way r (mirrored r) (without x f) (suc c) f (omega arith) (line_negative r f p x c e)
          (on_way (without x f) (suc c) (omega arith) (λ (z : coefficient x f ≡ pos 0). absurd (omega (arith, ints))) ((line_negative Equals f p x c e _ _).1 refl)) t

  atom_stays : (a : Atom) → AtomIn Fields a →
      ((i : ℤ) (l : ℕ) → 0 < l → NotAfter side (j *ℤ pos l) (i *ℤ pos n) → NotAfter side (i *ℤ pos m) (k *ℤ pos l) → ¬ (¬ (coefficient x (form_of a) ≡ pos 0) × (value (form_of a) (move nat_eq p x i l) ≡ pos 0))) →
      Says a (move nat_eq p x j n) → Says a (move nat_eq p x k m)
  atom_stays (Compare r f) c clear t = comparison_stays r f clear t
  atom_stays (Congruent holds l f) c clear t = absurd c

-- a formula that holds at a place is true at a value with no critical value on the way
way_is_clear : (side : Side) (x : ℕ) (s : Place) (f : Tree) (p : Point ℕ) (k : ℤ) (m : ℕ) → IsOfSide side s → IsPlain f → InContext Fields f → Of Fields p → pos 0 <ℤ pos m →
    Covers side (cut_of p s) k m → NoCritical x f p (λ i l. Covers side (cut_of p s) i l × NotAfter side (i *ℤ pos m) (k *ℤ pos l)) →
    Holds Fields (at_place x s) f p → TrueAt Fields f (move nat_eq p x k m)
way_is_clear side x s f p k m of_side plain inside o pm covers clear holds = go (near_some s _ p (field_place side s of_side) (near_both s _ _ p reached met))
  where
    met : Near p s (λ j n. TrueAt Fields f (move nat_eq p x j n))
    met = (near_meets s x (λ q. TrueAt Fields f q) p (field_place side s of_side)).1 holds

    reached : Near p s (λ j n. (pos 0 <ℤ pos n) × Covers side (cut_of p s) j n × NotAfter side (j *ℤ pos m) (k *ℤ pos n))
    reached = place_near p o _ k m pm side s of_side covers (λ j n q c b. (q, c, b))

    stays : (j : ℤ) (n : ℕ) → (pos 0 <ℤ pos n) × Covers side (cut_of p s) j n × NotAfter side (j *ℤ pos m) (k *ℤ pos n) → Every (λ a. Says a (move nat_eq p x j n) → Says a (move nat_eq p x k m)) f
    stays j n r = every_both (AtomIn Fields) _ _ (λ a c h. atom_stays side p x j n k m r.0 pm r.2 a c h) f inside
        (every_atom _ f (λ a among i l q b d root. clear i l q (covers_on side (cut_of p s) j n i l (proper side p s of_side) r.0 (pos_positive q) r.1 b, d) (among_some _ (atoms_of f) a among root)))

    go : (j : ℤ) × (n : ℕ) × 0 < n × (((pos 0 <ℤ pos n) × Covers side (cut_of p s) j n × NotAfter side (j *ℤ pos m) (k *ℤ pos n)) × TrueAt Fields f (move nat_eq p x j n)) → TrueAt Fields f (move nat_eq p x k m)
    go g = plain_truth Says (move nat_eq) Fields Says (move nat_eq) Fields (move nat_eq p x g.0 g.1) (move nat_eq p x k m) f plain (stays g.0 g.1 g.3.0) g.3.1

-- ---- half way, one further

half_above : (j i k n l m c : ℤ) → pos 0 <ℤ l → pos 0 <ℤ m → (j *ℤ l) <ℤ (i *ℤ n) → c ≡ pos 2 *ℤ (n *ℤ l) → k *ℤ c ≡ (j *ℤ l +ℤ i *ℤ n) *ℤ m → (j *ℤ m) <ℤ (k *ℤ n)
half_above j i k n l m c pl pm h e f =
    let a : k *ℤ c ≡ pos 2 *ℤ (l *ℤ (k *ℤ n)) = ap (λ z. k *ℤ z) e ∙ mul_left_comm k (pos 2) (n *ℤ l) ∙ ap (λ z. pos 2 *ℤ z) (ap (λ z. k *ℤ z) (mul_comm n l) ∙ mul_left_comm k l n) in
    let b = add_mul (j *ℤ l) (i *ℤ n) m in
    let g = mul_less m pm h in
    let q = mul_comm m (j *ℤ l) in let r = mul_comm m (i *ℤ n) in
    let t : j *ℤ l *ℤ m ≡ l *ℤ (j *ℤ m) = mul_assoc j l m ∙ mul_left_comm j l m in
    let u : (l *ℤ (j *ℤ m)) <ℤ (l *ℤ (k *ℤ n)) = omega (arith, ints) in
    cancel_less l pl u

half_below : (j i k n l m c : ℤ) → pos 0 <ℤ n → pos 0 <ℤ m → (j *ℤ l) <ℤ (i *ℤ n) → c ≡ pos 2 *ℤ (n *ℤ l) → k *ℤ c ≡ (j *ℤ l +ℤ i *ℤ n) *ℤ m → (k *ℤ l) <ℤ (i *ℤ m)
half_below j i k n l m c pn pm h e f =
    let a : k *ℤ c ≡ pos 2 *ℤ (n *ℤ (k *ℤ l)) = ap (λ z. k *ℤ z) e ∙ mul_left_comm k (pos 2) (n *ℤ l) ∙ ap (λ z. pos 2 *ℤ z) (mul_left_comm k n l) in
    let b = add_mul (j *ℤ l) (i *ℤ n) m in
    let g = mul_less m pm h in
    let q = mul_comm m (j *ℤ l) in let r = mul_comm m (i *ℤ n) in
    let t : i *ℤ n *ℤ m ≡ n *ℤ (i *ℤ m) = mul_assoc i n m ∙ mul_left_comm i n m in
    let u : (n *ℤ (k *ℤ l)) <ℤ (n *ℤ (i *ℤ m)) = omega (arith, ints) in
    cancel_less n pn u

pub twice : (n l : ℕ) → pos (2 * (n * l)) ≡ pos 2 *ℤ (pos n *ℤ pos l)
twice n l = pos_mul 2 (n * l) ∙ ap (λ z. pos 2 *ℤ z) (pos_mul n l)

-- the same with the two ends written the other way round
half_turned : (j i n l m : ℤ) → (j *ℤ l +ℤ i *ℤ n) *ℤ m ≡ (i *ℤ n +ℤ j *ℤ l) *ℤ m
half_turned j i n l m = let e : j *ℤ l +ℤ i *ℤ n ≡ i *ℤ n +ℤ j *ℤ l = omega (arith, ints) in ap (λ z. z *ℤ m) e

one_above : (v c k d m : ℤ) → pos 0 <ℤ c → pos 0 <ℤ m → k *ℤ d ≡ (v +ℤ c) *ℤ m → (v *ℤ m) <ℤ (k *ℤ d)
one_above v c k d m pc pm e = let a = add_mul v c m in let b = mul_positive pc pm in omega (arith, ints)

one_below : (v c k d m : ℤ) → pos 0 <ℤ c → pos 0 <ℤ m → k *ℤ d ≡ (v -ℤ c) *ℤ m → (k *ℤ d) <ℤ (v *ℤ m)
one_below v c k d m pc pm e = let a = sub_mul v c m in let b = mul_positive pc pm in omega (arith, ints)

cross_set : (v k d m b : ℤ) → k *ℤ d ≡ v *ℤ m → v *ℤ (b *ℤ m) ≡ k *ℤ (b *ℤ d)
cross_set v k d m b e = mul_left_comm v b m ∙ ap (λ z. b *ℤ z) (sym e) ∙ mul_left_comm b k d

cross_other : (d m a b : ℤ) → d *ℤ a *ℤ (b *ℤ m) ≡ m *ℤ a *ℤ (b *ℤ d)
cross_other d m a b = simp ring

same_fraction : (v : ℤ) (d : ℕ) (p : Point ℕ) (x : ℕ) (k : ℤ) (m : ℕ) → k *ℤ pos d ≡ v *ℤ pos m → IsSamePoint (move nat_eq p x v d) (move nat_eq p x k m)
unfolding move
same_fraction v d p x k m same = record { same_value = λ y. go (nat_eq x y) (p.at y) }
  where
    go : (b : Bool) (a : ℤ) → (if b then v else pos d *ℤ a) *ℤ pos (p.below * m) ≡ (if b then k else pos m *ℤ a) *ℤ pos (p.below * d)
    go true a = subst₂ (λ y z. v *ℤ y ≡ k *ℤ z) (sym (pos_mul p.below m)) (sym (pos_mul p.below d)) (cross_set v k (pos d) (pos m) (pos p.below) same)
    go false a = subst₂ (λ y z. pos d *ℤ a *ℤ y ≡ pos m *ℤ a *ℤ z) (sym (pos_mul p.below m)) (sym (pos_mul p.below d)) (cross_other (pos d) (pos m) a (pos p.below))

-- ---- each kind of place

module _ (x : ℕ) (f : Tree) (p : Point ℕ) (k : ℤ) (m : ℕ) (plain : IsPlain f) (inside : InContext Fields f) (o : Of Fields p) (pm : pos 0 <ℤ pos m) where
  sample_above : (e : Form) (d : ℕ) → 0 < d → IsJustPast x f p (value e p) d k m → Holds Fields (at_place x (AboveBy e d)) f p → TrueAt Fields f (move nat_eq p x k m)
  sample_above e d pd (inl (j, n, pn, critical, above, between, half)) holds =
      let past = half_above (value e p) j k (pos d) (pos n) (pos m) (pos (2 * (d * n))) (pos_positive pn) pm above (twice d n) half in
      let short = half_below (value e p) j k (pos d) (pos n) (pos m) (pos (2 * (d * n))) (pos_positive pd) pm above (twice d n) half in
      way_is_clear Lower x (AboveBy e d) f p k m (pos_positive pd) plain inside o pm past
      (λ i l q h. between i l q (h.0, at_most_less i (pos l) k (pos m) j (pos n) (pos_positive q) pm (pos_positive pn) h.1 short)) holds
  sample_above e d pd (inr (none, one)) holds =
      way_is_clear Lower x (AboveBy e d) f p k m (pos_positive pd) plain inside o pm
      (one_above (value e p) (pos (d * p.below)) k (pos d) (pos m) (pos_positive (mul-pos pd o)) pm one)
      (λ i l q h. none i l q h.0) holds

  sample_below : (e : Form) (d : ℕ) → 0 < d → IsJustShort x f p (value e p) d k m → Holds Fields (at_place x (BelowBy e d)) f p → TrueAt Fields f (move nat_eq p x k m)
  sample_below e d pd (inl (j, n, pn, critical, below, between, half)) holds =
      let turned = twice d n ∙ ap (λ z. pos 2 *ℤ z) (mul_comm (pos d) (pos n)) in
      let same = half ∙ half_turned (value e p) j (pos d) (pos n) (pos m) in
      let short = half_below j (value e p) k (pos n) (pos d) (pos m) (pos (2 * (d * n))) (pos_positive pn) pm below turned same in
      let past = half_above j (value e p) k (pos n) (pos d) (pos m) (pos (2 * (d * n))) (pos_positive pd) pm below turned same in
      way_is_clear Upper x (BelowBy e d) f p k m (pos_positive pd) plain inside o pm short
      (λ i l q h. between i l q (h.0, less_at_most j (pos n) k (pos m) i (pos l) (pos_positive pn) pm (pos_positive q) past h.1)) holds
  sample_below e d pd (inr (none, one)) holds =
      way_is_clear Upper x (BelowBy e d) f p k m (pos_positive pd) plain inside o pm
      (one_below (value e p) (pos (d * p.below)) k (pos d) (pos m) (pos_positive (mul-pos pd o)) pm one)
      (λ i l q h. none i l q h.0) holds

  sample_minus : IsBelowAll x f p k m → Holds Fields (at_place x MinusInfinity) f p → TrueAt Fields f (move nat_eq p x k m)
  sample_minus (inl (j, n, pn, critical, least, one)) holds =
      way_is_clear Lower x MinusInfinity f p k m tt plain inside o pm tt
      (λ i l q h. least i l q (at_most_less i (pos l) k (pos m) j (pos n) (pos_positive q) pm (pos_positive pn) h.1 (one_below j (pos (n * p.below)) k (pos n) (pos m) (pos_positive (mul-pos pn o)) pm one))) holds
  sample_minus (inr (none, middle)) holds = way_is_clear Lower x MinusInfinity f p k m tt plain inside o pm tt (λ i l q h. none i l q tt) holds

  sample_plus : IsAboveAll x f p k m → Holds Fields (at_place x PlusInfinity) f p → TrueAt Fields f (move nat_eq p x k m)
  sample_plus (inl (j, n, pn, critical, greatest, one)) holds =
      way_is_clear Upper x PlusInfinity f p k m tt plain inside o pm tt
      (λ i l q h. greatest i l q (less_at_most j (pos n) k (pos m) i (pos l) (pos_positive pn) pm (pos_positive q) (one_above j (pos (n * p.below)) k (pos n) (pos m) (pos_positive (mul-pos pn o)) pm one) h.1)) holds
  sample_plus (inr (none, middle)) holds = way_is_clear Upper x PlusInfinity f p k m tt plain inside o pm tt (λ i l q h. none i l q tt) holds

  -- one value in two representations
  sample_exact : (e : Form) (d : ℕ) → 0 < d → k *ℤ pos d ≡ value e p *ℤ pos m → Holds Fields (at_place x (Exact e d)) f p → TrueAt Fields f (move nat_eq p x k m)
  sample_exact e d pd same holds =
      (tree_same_point Fields f (move nat_eq p x (value e p) d) (move nat_eq p x k m) (moved_of Fields p x (value e p) d o pd) (moved_of Fields p x k m o (positive_pos pm)) (same_fraction (value e p) d p x k m same)).0 holds

pub sample_is_true : (x : ℕ) (s : Place) (f : Tree) (p : Point ℕ) (k : ℤ) (m : ℕ) → IsFieldPlace s → IsPlain f → InContext Fields f → Of Fields p → 0 < m →
    IsFieldSample x f p s k m → Holds Fields (at_place x s) f p → TrueAt Fields f (move nat_eq p x k m)
sample_is_true x (Exact e d) f p k m h s c o pm sample holds = sample_exact x f p k m s c o (pos_positive pm) e d h sample holds
sample_is_true x (AboveBy e d) f p k m h s c o pm sample holds = sample_above x f p k m s c o (pos_positive pm) e d h sample holds
sample_is_true x (BelowBy e d) f p k m h s c o pm sample holds = sample_below x f p k m s c o (pos_positive pm) e d h sample holds
sample_is_true x PlusInfinity f p k m h s c o pm sample holds = sample_plus x f p k m s c o (pos_positive pm) sample holds
sample_is_true x MinusInfinity f p k m h s c o pm sample holds = sample_minus x f p k m s c o (pos_positive pm) sample holds
sample_is_true x (Periodic a q) f p k m h s c o pm sample holds = absurd h
