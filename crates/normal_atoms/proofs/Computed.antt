-- The functions that compute merging and deciding are right.
use Rattle.std.proofs.Common.{◌≡◌, ◌⊎◌, inl, inr, ◌≤◌, ◌^◌, ℕ, Bool, true, false, not, ◌&&◌, sym, subst, ◌∙◌, ap, refl, arith, eq-eqb, eqb-true}
use Rattle.std.proofs.Math.IntN.{ℤ, pos, ◌+ℤ◌, ◌-ℤ◌, ◌*ℤ◌}
use Rattle.std.specs.Prelude.{◌<ℤ◌, ◌≤ℤ◌, unsigned_abs, nat_eq, nat_lt, if◌then◌else◌, None, List}
use Rattle.std.specs.declared.cmp.Ordering.{Ordering}
use Rattle.std.specs.declared.cmp.Ordering.TheVariants.{Less, Equal, Greater}
use Rattle.std.specs.Ordering.{int_cmp, int_eq}
use Rattle.std.proofs.lemmas.Int.{ints}
use Rattle.std.proofs.lemmas.Bool.{ltb-true, ltb-false, lt-ltb, le-ltb}
use Rattle.exact_numbers.specs.Limit.{InLimit, PastLimit}
use Rattle.exact_numbers.proofs.Order.{by_compare}
use Rattle.exact_numbers.proofs.Ring.{mul_one}
use Rattle.std.proofs.lemmas.Bool.Decides.{Decides-int_eq}
use Rattle.logic_meaning.specs.Context.{Context, Fields, Integers}
use Rattle.logic_meaning.specs.Form.{Form, Term}
use Rattle.logic_meaning.specs.Atom.{Relation, Equals, Differs, Below, AtMost, Above, AtLeast, Atom, Compare, Congruent, opposite_relation, form_of}
use Rattle.logic_meaning.specs.Same.{same_terms}
use Rattle.logic_meaning.specs.declared.junction.Junction.{Junction}
use Rattle.logic_meaning.specs.declared.junction.Junction.TheVariants.{Conjunction, Disjunction}
use Rattle.linear_forms.proofs.FromFormulaLaws.{terms_same, form_alike, and_right, and_left, both_true}
use Rattle.logic_meaning.specs.NormalForm.{IsNormal, IsNormalCongruence}
use Rattle.normal_atoms.specs.declared.atom_merging_comparison.Position.{Position}
use Rattle.normal_atoms.specs.declared.atom_merging_comparison.Position.TheVariants as lies
use Rattle.normal_atoms.specs.declared.atom_merging_congruence.Class.{Class}
use Rattle.normal_atoms.specs.declared.atom_merging_congruence.Class.TheVariants as class_is
use Rattle.normal_atoms.specs.Positions.{IsPosition, IsContentIn, IsBelow, IsNextBelow}
use Rattle.logic_meaning.specs.Merging.{variable_part, SamePart, MergesInto, IsKept}
use Rattle.normal_atoms.specs.Merged.{IsDecision}
use Rattle.normal_atoms.specs.Verdicts as verdicts
use Rattle.normal_atoms.specs.Verdicts.{Verdict, verdict, both, normal_comparison, IsDecisive}
use Rattle.normal_atoms.specs.declared.answers.Merged as answers
use Rattle.normal_atoms.specs.declared.answers.Merged.TheVariants as answer_is
use Rattle.normal_atoms.specs.Junctions.{absorbing}
use Rattle.normal_atoms.specs.Answered.{IsOne, IsOneOrKept}
use Rattle.normal_atoms.specs.Classes.{class, both_classes}
use Rattle.normal_atoms.specs.Computed.{Merging, Settled, Into, Kept, is_next, placed, position, into_within, of_verdict, is_settled, is_told, of_class, is_settled_class, answer, is_same_part, merged_part, merged, decided_part, decided_by, IsRight, IsNormalWithin, merging_of}
use Rattle.normal_atoms.proofs.Sets.{flip}
use Rattle.normal_atoms.proofs.JoinedComparisons.{content, normal_content, normal_relation, relation_toward, judged_verdict, judged_both, settles, stays_kept, merges_at, kept_at, implies, not_implies, not_excludes, apart_kept, apart_undecided}
use Rattle.normal_atoms.proofs.JoinedCongruences.{modulus_back, judged_class, judged_classes, classes_settle, classes_kept, merges_first, merges_second, merges_third, class_implies, not_class_implies, not_class_excludes}

-- ---- how two thresholds lie

next_told : (c : Context) (a b : ℤ) → is_next c a b ≡ true → IsNextBelow c a b
next_told Fields a b e = absurd (cc (e))
next_told Integers a b e = test_same a (b +ℤ pos 1) e
  where
    test_same : (x y : ℤ) → int_eq x y ≡ true → x ≡ y
    test_same x y h = (Decides-int_eq x y).0 h

-- below, and not the number before
below_told : (c : Context) (g a h b : ℤ) → IsContentIn c g → IsContentIn c h → (b *ℤ g) <ℤ (a *ℤ h) → is_next c a b ≡ false → IsBelow c g a h b
below_told Fields g a h b x y l e = l
below_told Integers g a h b x y l e =
    let u : b *ℤ g ≡ b = ap (λ z. b *ℤ z) x ∙ mul_one b in
    let v : a *ℤ h ≡ a = ap (λ z. a *ℤ z) y ∙ mul_one a in
    let n : ¬ (a ≡ b +ℤ pos 1) = λ q. let w : true ≡ false = sym ((Decides-int_eq a (b +ℤ pos 1)).1 q) ∙ e in absurd (cc (w)) in
    omega (arith, ints)

placed_is : (c : Context) (g a h b : ℤ) → IsContentIn c g → IsContentIn c h → (o : Ordering) → int_cmp (b *ℤ g) (a *ℤ h) ≡ o → IsPosition c g a h b (placed c a b o)
placed_is c g a h b x y o e =
    subst (λ (u : Ordering). IsPosition c g a h b (placed c a b u)) e
    (by_compare {P = IsPosition c g a h b (placed c a b (int_cmp (b *ℤ g) (a *ℤ h)))} (b *ℤ g) (a *ℤ h)
    (λ l q. back Less q (below (is_next c a b) refl l))
    (λ l q. back Equal q (sym l))
    (λ l q. back Greater q (above (is_next c b a) refl l)))
  where
    back : (u : Ordering) → int_cmp (b *ℤ g) (a *ℤ h) ≡ u → IsPosition c g a h b (placed c a b u) → IsPosition c g a h b (placed c a b (int_cmp (b *ℤ g) (a *ℤ h)))
    back u q i = subst (λ (v : Ordering). IsPosition c g a h b (placed c a b v)) (sym q) i

    below : (t : Bool) → is_next c a b ≡ t → (b *ℤ g) <ℤ (a *ℤ h) → IsPosition c g a h b (if t then lies.NextBelow else lies.Below)
    below true q l = next_told c a b q
    below false q l = below_told c g a h b x y l q

    above : (t : Bool) → is_next c b a ≡ t → (a *ℤ h) <ℤ (b *ℤ g) → IsPosition c g a h b (if t then lies.NextAbove else lies.Above)
    above true q l = next_told c b a q
    above false q l = below_told c h b g a y x l q

-- ---- one variable part

terms_differ : (ts us : List Term) → same_terms ts us ≡ false → ¬ (ts ≡ us)
terms_differ ts us e q =
    let f : Form = record { terms = ts; constant = pos 0 } in
    let k = and_right (int_eq (pos 0) (pos 0)) (same_terms ts ts) (form_alike f) in
    let w : true ≡ false = sym k ∙ ap (same_terms ts) q ∙ e in
    absurd (cc (w))

both_false : (a b : Bool) → (a && b) ≡ false → (a ≡ true → b ≡ false)
both_false true b e = λ h. e
both_false false b e = λ h. absurd (cc (h))

part_told : (a b : Atom) → is_same_part a b ≡ true → SamePart a b
part_told (Compare r f) (Compare s g) e = terms_same (variable_part f.terms) (variable_part g.terms) e
part_told (Congruent b m f) (Congruent d n g) e = (eqb-true m n (and_left (nat_eq m n) _ e), terms_same f.terms g.terms (and_right (nat_eq m n) _ e))
part_told (Compare r f) (Congruent d n g) e = absurd (cc (e))
part_told (Congruent b m f) (Compare s g) e = absurd (cc (e))

part_apart : (a b : Atom) → is_same_part a b ≡ false → ¬ (SamePart a b)
part_apart (Compare r f) (Compare s g) e = terms_differ (variable_part f.terms) (variable_part g.terms) e
part_apart (Congruent b m f) (Congruent d n g) e = λ h. terms_differ f.terms g.terms (both_false (nat_eq m n) (same_terms f.terms g.terms) e (eq-eqb m n h.0)) h.1
part_apart (Compare r f) (Congruent d n g) e = λ h. h
part_apart (Congruent b m f) (Compare s g) e = λ h. h

-- ---- comparisons

within_right : (c : Context) (j : Junction) (a b e : Atom) → MergesInto c j a b e → (PastLimit (form_of e).constant → IsKept c j a b) → (t : Bool) → nat_lt (unsigned_abs (form_of e).constant) (2 ^ 127) ≡ t → IsRight c j a b (if t then Into e else Kept)
within_right c j a b e m k true q = (m, ltb-true _ _ q)
within_right c j a b e m k false q = k (ltb-false _ _ q)

module _ (c : Context) (r : Relation) (f : Form) (s : Relation) (g : Form) (x : IsNormal c (Compare r f)) (y : IsNormal c (Compare s g)) (p : variable_part f.terms ≡ variable_part g.terms) where
  lies_so : IsPosition c (content f) f.constant (content g) g.constant (position c f g)
  lies_so = placed_is c (content f) f.constant (content g) g.constant (normal_content c r f x) (normal_content c s g y) (int_cmp (g.constant *ℤ content f) (f.constant *ℤ content g)) refl

  verdict_right : (j : Junction) → InLimit f.constant → InLimit g.constant → (v : Verdict) → v ≡ verdict j (position c f g) r s → IsRight c j (Compare r f) (Compare s g) (of_verdict c f g v)
  verdict_right j k l verdicts.Settled e = settles c r f s g x y p j (judged_verdict c r f s g x y p j (position c f g) lies_so verdicts.Settled e)
  verdict_right j k l verdicts.Kept e = stays_kept c r f s g x y p j (judged_verdict c r f s g x y p j (position c f g) lies_so verdicts.Kept e)
  verdict_right j k l (verdicts.First q) e =
      let h = judged_verdict c r f s g x y p j (position c f g) lies_so (verdicts.First q) e in
      within_right c j (Compare r f) (Compare s g) (normal_comparison c q f) (merges_at c r f s g x y p j q r f x refl h.0) (kept_at c r f s g x y p j q r f x refl h.0 h.1 k) (nat_lt (unsigned_abs (form_of (normal_comparison c q f)).constant) (2 ^ 127)) refl
  verdict_right j k l (verdicts.Second q) e =
      let h = judged_verdict c r f s g x y p j (position c f g) lies_so (verdicts.Second q) e in
      within_right c j (Compare r f) (Compare s g) (normal_comparison c q g) (merges_at c r f s g x y p j q s g y p h.0) (kept_at c r f s g x y p j q s g y p h.0 h.1 l) (nat_lt (unsigned_abs (form_of (normal_comparison c q g)).constant) (2 ^ 127)) refl

  settled_told : (v : Verdict) → is_settled v ≡ true → v ≡ verdicts.Settled
  settled_told verdicts.Settled e = refl
  settled_told v e = absurd (cc (e))

  not_settled : (v : Verdict) → is_settled v ≡ false → ¬ (v ≡ verdicts.Settled)
  not_settled v e q = let w : true ≡ false = sym (ap is_settled q) ∙ e in absurd (cc (w))

  answer_right : (u v : Verdict) → u ≡ both (position c f g) r (opposite_relation s) → v ≡ both (position c f g) r s → (a b : Bool) → is_settled u ≡ a → is_settled v ≡ b → IsDecision c (Compare r f) (Compare s g) (answer a b)
  answer_right u v i k true b e h =
      implies c r f s g x y p (judged_both c r f s g x y p r (opposite_relation s) (normal_relation c r f x) (relation_toward c Disjunction s (normal_relation c s g y)) (position c f g) lies_so verdicts.Settled (sym (settled_told u e) ∙ i))
  answer_right u v i k false true e h =
      settles c r f s g x y p Conjunction (judged_both c r f s g x y p r s (normal_relation c r f x) (normal_relation c s g y) (position c f g) lies_so verdicts.Settled (sym (settled_told v h) ∙ k))
  answer_right u v i k false false e h = (
    not_implies c r f s g x y p u (judged_both c r f s g x y p r (opposite_relation s) (normal_relation c r f x) (relation_toward c Disjunction s (normal_relation c s g y)) (position c f g) lies_so u i) (not_settled u e),
    not_excludes c r f s g x y p v (judged_both c r f s g x y p r s (normal_relation c r f x) (normal_relation c s g y) (position c f g) lies_so v k) (not_settled v h),
  )

-- ---- congruences

pub flip_told : (j : Junction) → flip j (is_told j) ≡ true
flip_told Conjunction = refl
flip_told Disjunction = refl

module _ (m : ℕ) (b : Bool) (f : Form) (d : Bool) (g : Form) (x : IsNormalCongruence b m f) (y : IsNormalCongruence d m g) (s : f.terms ≡ g.terms) where
  above : pos 0 <ℤ pos m
  above = let h = x.above_one in omega (arith, ints)

  class_right : (j : Junction) → InLimit f.constant → InLimit g.constant → (v : Class) → v ≡ class j (pos m) b f.constant d g.constant → IsRight Integers j (Congruent b m f) (Congruent d m g) (of_class j m b f d g v)
  class_right j k l class_is.Settled e = classes_settle (pos m) above b f d g x y s j (judged_class (pos m) above b f d g x y s j class_is.Settled e)
  class_right j k l class_is.First e = (merges_first (pos m) above b f d g x y s j (judged_class (pos m) above b f d g x y s j class_is.First e), k)
  class_right j k l class_is.Second e = (merges_second (pos m) above b f d g x y s j (judged_class (pos m) above b f d g x y s j class_is.Second e), l)
  class_right j k l class_is.Third e =
      let h = judged_class (pos m) above b f d g x y s j class_is.Third e in
      let t = h.three in
      let u = h.is_class.not_negative in
      let v = h.is_class.below in
      (merges_third (pos m) above b f d g x y s j (is_told j) (flip_told j) h, small ((pos 3 -ℤ f.constant) -ℤ g.constant) u (subst (λ z. ((pos 3 -ℤ f.constant) -ℤ g.constant) <ℤ z) t v))
    where
      small : (z : ℤ) → pos 0 ≤ℤ z → z <ℤ pos 3 → InLimit z
      small z u v = omega (arith, ints)
  class_right j k l class_is.Kept e = classes_kept (pos m) above b f d g x y s j (judged_class (pos m) above b f d g x y s j class_is.Kept e)

  class_told : (v : Class) → is_settled_class v ≡ true → v ≡ class_is.Settled
  class_told class_is.Settled e = refl
  class_told v e = absurd (cc (e))

  class_open : (v : Class) → is_settled_class v ≡ false → ¬ (v ≡ class_is.Settled)
  class_open v e q = let w : true ≡ false = sym (ap is_settled_class q) ∙ e in absurd (cc (w))

  class_answer : (u v : Class) → u ≡ both_classes (pos m) b f.constant (not d) g.constant → v ≡ both_classes (pos m) b f.constant d g.constant → (a t : Bool) → is_settled_class u ≡ a → is_settled_class v ≡ t → IsDecision Integers (Congruent b m f) (Congruent d m g) (answer a t)
  class_answer u v i k true t e h = class_implies (pos m) above b f d g x y s (judged_classes (pos m) above b f d g x y s b (not d) class_is.Settled (sym (class_told u e) ∙ i))
  class_answer u v i k false true e h = classes_settle (pos m) above b f d g x y s Conjunction (judged_classes (pos m) above b f d g x y s b d class_is.Settled (sym (class_told v h) ∙ k))
  class_answer u v i k false false e h = (
    not_class_implies (pos m) above b f d g x y s u (judged_classes (pos m) above b f d g x y s b (not d) u i) (class_open u e),
    not_class_excludes (pos m) above b f d g x y s v (judged_classes (pos m) above b f d g x y s b d v k) (class_open v h),
  )

-- ---- both

part_right : (c : Context) (j : Junction) (a b : Atom) → IsNormalWithin c a → IsNormalWithin c b → SamePart a b → IsRight c j a b (merged_part c j a b)
part_right c j (Compare r f) (Compare s g) x y p = verdict_right c r f s g x.normal y.normal p j x.within y.within (verdict j (position c f g) r s) refl
part_right Fields j (Congruent b m f) (Congruent d n g) x y p = absurd x.normal
part_right Integers j (Congruent b m f) (Congruent d n g) x y p =
    subst (λ (k : ℕ). IsNormalCongruence d k g → IsRight Integers j (Congruent b m f) (Congruent d k g) (merged_part Integers j (Congruent b m f) (Congruent d k g))) p.0
    (λ z. class_right m b f d g x.normal z p.1 j x.within y.within (class j (pos m) b f.constant d g.constant) refl)
    y.normal
part_right c j (Compare r f) (Congruent d n g) x y p = absurd p
part_right c j (Congruent b m f) (Compare s g) x y p = absurd p

pub merged_right : (c : Context) (j : Junction) (a b : Atom) → IsNormalWithin c a → IsNormalWithin c b → IsRight c j a b (merged c j a b)
merged_right c j a b x y = split (is_same_part a b) refl
  where
    split : (t : Bool) → is_same_part a b ≡ t → IsRight c j a b (if t then merged_part c j a b else Kept)
    split true e = part_right c j a b x y (part_told a b e)
    split false e = apart_kept c j a b (part_apart a b e)

part_decided : (c : Context) (a b : Atom) → IsNormal c a → IsNormal c b → SamePart a b → IsDecision c a b (decided_part c a b)
part_decided c (Compare r f) (Compare s g) x y p =
    let u = both (position c f g) r (opposite_relation s) in
    let v = both (position c f g) r s in
    answer_right c r f s g x y p u v refl refl (is_settled u) (is_settled v) refl refl
part_decided Fields (Congruent b m f) (Congruent d n g) x y p = absurd x
part_decided Integers (Congruent b m f) (Congruent d n g) x y p =
    subst (λ (k : ℕ). IsNormalCongruence d k g → IsDecision Integers (Congruent b m f) (Congruent d k g) (decided_part Integers (Congruent b m f) (Congruent d k g))) p.0
    (λ z.
    let u = both_classes (pos m) b f.constant (not d) g.constant in
    let v = both_classes (pos m) b f.constant d g.constant in
    class_answer m b f d g x z p.1 u v refl refl (is_settled_class u) (is_settled_class v) refl refl)
    y
part_decided c (Compare r f) (Congruent d n g) x y p = absurd p
part_decided c (Congruent b m f) (Compare s g) x y p = absurd p

pub decided_right : (c : Context) (a b : Atom) → IsNormal c a → IsNormal c b → IsDecision c a b (decided_by c a b)
decided_right c a b x y = split (is_same_part a b) refl
  where
    split : (t : Bool) → is_same_part a b ≡ t → IsDecision c a b (if t then decided_part c a b else None)
    split true e = part_decided c a b x y (part_told a b e)
    split false e = apart_undecided c a b (part_apart a b e)

-- ---- what a merged atom looks like

-- The atom e has the terms of a, and its constant or nearly so.
pub data ComesOf : Atom → Atom → Type 0 where
  compared : (r q : Relation) (f : Form) (k : ℤ) → (k ≡ f.constant) ⊎ (k ≡ f.constant +ℤ pos 1) → ComesOf (Compare r f) (Compare q (record { terms = f.terms; constant = k }))
  congruent : (b q : Bool) (m : ℕ) (f : Form) (k : ℤ) → (k ≡ f.constant) ⊎ (unsigned_abs k ≤ 9) → ComesOf (Congruent b m f) (Congruent q m (record { terms = f.terms; constant = k }))

moved_comes : (c : Context) (r q : Relation) (f : Form) → ComesOf (Compare r f) (normal_comparison c q f)
moved_comes Integers r Below f = compared r AtMost f (f.constant +ℤ pos 1) (inr refl)
moved_comes Integers r AtLeast f = compared r Above f (f.constant +ℤ pos 1) (inr refl)
moved_comes Integers r Equals f = compared r Equals f f.constant (inl refl)
moved_comes Integers r Differs f = compared r Differs f f.constant (inl refl)
moved_comes Integers r AtMost f = compared r AtMost f f.constant (inl refl)
moved_comes Integers r Above f = compared r Above f f.constant (inl refl)
moved_comes Fields r q f = compared r q f f.constant (inl refl)

into_is : (d e : Atom) → into_within d ≡ Into e → d ≡ e
into_is d e h = split (nat_lt (unsigned_abs (form_of d).constant) (2 ^ 127)) h
  where
    split : (t : Bool) → (if t then Into d else Kept) ≡ Into e → d ≡ e
    split true q = cc
    split false q = absurd (cc (q))

verdict_comes : (c : Context) (r : Relation) (f : Form) (s : Relation) (g : Form) (e : Atom) (v : Verdict) → of_verdict c f g v ≡ Into e → ComesOf (Compare r f) e ⊎ ComesOf (Compare s g) e
verdict_comes c r f s g e verdicts.Settled h = absurd (cc (h))
verdict_comes c r f s g e verdicts.Kept h = absurd (cc (h))
verdict_comes c r f s g e (verdicts.First q) h = inl (subst (ComesOf (Compare r f)) (into_is (normal_comparison c q f) e h) (moved_comes c r q f))
verdict_comes c r f s g e (verdicts.Second q) h = inr (subst (ComesOf (Compare s g)) (into_is (normal_comparison c q g) e h) (moved_comes c s q g))

class_comes : (m : ℕ) (b : Bool) (f : Form) (d : Bool) (g : Form) → IsNormalCongruence b m f → IsNormalCongruence d m g → f.terms ≡ g.terms → (j : Junction) (e : Atom) (v : Class) → v ≡ class j (pos m) b f.constant d g.constant
    → of_class j m b f d g v ≡ Into e → ComesOf (Congruent b m f) e ⊎ ComesOf (Congruent d m g) e
class_comes m b f d g x y s j e class_is.Settled q h = absurd (cc (h))
class_comes m b f d g x y s j e class_is.Kept q h = absurd (cc (h))
class_comes m b f d g x y s j e class_is.First q h = let w : Congruent b m f ≡ e = cc in inl (subst (ComesOf (Congruent b m f)) w (congruent b b m f f.constant (inl refl)))
class_comes m b f d g x y s j e class_is.Second q h = let w : Congruent d m g ≡ e = cc in inr (subst (ComesOf (Congruent d m g)) w (congruent d d m g g.constant (inl refl)))
class_comes m b f d g x y s j e class_is.Third q h =
    let k = judged_class (pos m) (above m b f d g x y s) b f d g x y s j class_is.Third q in
    let t = k.three in
    let u = k.is_class.not_negative in
    let v = k.is_class.below in
    let w : Congruent (is_told j) m (record { terms = f.terms; constant = (pos 3 -ℤ f.constant) -ℤ g.constant }) ≡ e = cc in
    inl (subst (ComesOf (Congruent b m f)) w (congruent b (is_told j) m f ((pos 3 -ℤ f.constant) -ℤ g.constant) (inr (small ((pos 3 -ℤ f.constant) -ℤ g.constant) u (subst (λ z. ((pos 3 -ℤ f.constant) -ℤ g.constant) <ℤ z) t v)))))
  where
    small : (z : ℤ) → pos 0 ≤ℤ z → z <ℤ pos 3 → unsigned_abs z ≤ 9
    small z u v = omega (arith, ints)

part_comes : (c : Context) (j : Junction) (a b e : Atom) → IsNormal c a → IsNormal c b → SamePart a b → merged_part c j a b ≡ Into e → ComesOf a e ⊎ ComesOf b e
part_comes c j (Compare r f) (Compare s g) e x y p h = verdict_comes c r f s g e (verdict j (position c f g) r s) h
part_comes Fields j (Congruent b m f) (Congruent d n g) e x y p h = absurd x
part_comes Integers j (Congruent b m f) (Congruent d n g) e x y p h =
    subst (λ (k : ℕ). IsNormalCongruence d k g → ComesOf (Congruent b m f) e ⊎ ComesOf (Congruent d k g) e) p.0
    (λ z. class_comes m b f d g x z p.1 j e (class j (pos m) b f.constant d g.constant) refl h)
    y
part_comes c j (Compare r f) (Congruent d n g) e x y p h = absurd p
part_comes c j (Congruent b m f) (Compare s g) e x y p h = absurd p

-- a merged atom comes of one of the two
pub merged_comes : (c : Context) (j : Junction) (a b e : Atom) → IsNormal c a → IsNormal c b → merged c j a b ≡ Into e → ComesOf a e ⊎ ComesOf b e
merged_comes c j a b e x y h = split (is_same_part a b) refl h
  where
    split : (t : Bool) → is_same_part a b ≡ t → (if t then merged_part c j a b else Kept) ≡ Into e → ComesOf a e ⊎ ComesOf b e
    split true q k = part_comes c j a b e x y (part_told a b q) k
    split false q k = absurd (cc (k))

-- ---- the program's answers

same_of : (ts us : List Term) → ts ≡ us → same_terms ts us ≡ true
same_of ts us e =
    let f : Form = record { terms = ts; constant = pos 0 } in
    ap (same_terms ts) (sym e) ∙ and_right (int_eq (pos 0) (pos 0)) (same_terms ts ts) (form_alike f)

merged_same : (c : Context) (j : Junction) (a b : Atom) → is_same_part a b ≡ true → merged_part c j a b ≡ merged c j a b
merged_same c j a b e = ap (λ (t : Bool). if t then merged_part c j a b else Kept) (sym e)

merged_apart : (c : Context) (j : Junction) (a b : Atom) → is_same_part a b ≡ false → Kept ≡ merged c j a b
merged_apart c j a b e = ap (λ (t : Bool). if t then merged_part c j a b else Kept) (sym e)

decided_same : (c : Context) (a b : Atom) → is_same_part a b ≡ true → decided_part c a b ≡ decided_by c a b
decided_same c a b e = ap (λ (t : Bool). if t then decided_part c a b else None) (sym e)

pub decided_apart : (c : Context) (a b : Atom) → is_same_part a b ≡ false → None ≡ decided_by c a b
decided_apart c a b e = ap (λ (t : Bool). if t then decided_part c a b else None) (sym e)

apart_told : (ts us : List Term) → ¬ (ts ≡ us) → same_terms ts us ≡ false
apart_told ts us n = split (same_terms ts us) refl
  where
    split : (t : Bool) → same_terms ts us ≡ t → t ≡ false
    split true e = absurd (n (terms_same ts us e))
    split false e = refl

pub compared_apart : (c : Context) (j : Junction) (r : Relation) (f : Form) (s : Relation) (g : Form) → ¬ (variable_part f.terms ≡ variable_part g.terms) → Kept ≡ merged c j (Compare r f) (Compare s g)
compared_apart c j r f s g n = merged_apart c j (Compare r f) (Compare s g) (apart_told (variable_part f.terms) (variable_part g.terms) n)

pub compared_open : (c : Context) (r : Relation) (f : Form) (s : Relation) (g : Form) → ¬ (variable_part f.terms ≡ variable_part g.terms) → None ≡ decided_by c (Compare r f) (Compare s g)
compared_open c r f s g n = decided_apart c (Compare r f) (Compare s g) (apart_told (variable_part f.terms) (variable_part g.terms) n)

pub compared_so : (c : Context) (j : Junction) (r : Relation) (f : Form) (s : Relation) (g : Form) → variable_part f.terms ≡ variable_part g.terms → (p : Position) → p ≡ position c f g → (v : Verdict) → v ≡ verdict j p r s
    → (m : Merging Atom) → m ≡ of_verdict c f g v → m ≡ merged c j (Compare r f) (Compare s g)
compared_so c j r f s g h p q v e m k =
    k ∙ ap (of_verdict c f g) (e ∙ ap (λ (x : Position). verdict j x r s) q) ∙ merged_same c j (Compare r f) (Compare s g) (same_of (variable_part f.terms) (variable_part g.terms) h)

pub decided_so : (c : Context) (r : Relation) (f : Form) (s : Relation) (g : Form) → variable_part f.terms ≡ variable_part g.terms → (p : Position) → p ≡ position c f g
    → (a b : Bool) → is_settled (both p r (opposite_relation s)) ≡ a → is_settled (both p r s) ≡ b → answer a b ≡ decided_by c (Compare r f) (Compare s g)
decided_so c r f s g h p q a b i k =
    (λ t. answer (sym i t) (sym k t)) ∙ ap (λ (x : Position). answer (is_settled (both x r (opposite_relation s))) (is_settled (both x r s))) q
    ∙ decided_same c (Compare r f) (Compare s g) (same_of (variable_part f.terms) (variable_part g.terms) h)

pub settled_of : (v : Verdict) → IsDecisive v → is_settled v ≡ true
settled_of verdicts.Settled h = refl
settled_of verdicts.Kept h = absurd h
settled_of (verdicts.First q) h = absurd h
settled_of (verdicts.Second q) h = absurd h

pub unsettled_of : (v : Verdict) → ¬ (IsDecisive v) → is_settled v ≡ false
unsettled_of verdicts.Settled h = absurd (h tt)
unsettled_of verdicts.Kept h = refl
unsettled_of (verdicts.First q) h = refl
unsettled_of (verdicts.Second q) h = refl

pub absorbing_is : (j : Junction) → merging_of (absorbing j) ≡ Settled
absorbing_is Conjunction = refl
absorbing_is Disjunction = refl

within_is : (a : Atom) → InLimit (form_of a).constant → Into a ≡ into_within a
within_is a h = ap (λ (t : Bool). if t then Into a else Kept) (sym (lt-ltb (unsigned_abs (form_of a).constant) (2 ^ 127) h))

past_is : (a : Atom) → PastLimit (form_of a).constant → Kept ≡ into_within a
past_is a h = ap (λ (t : Bool). if t then Into a else Kept) (sym (le-ltb (unsigned_abs (form_of a).constant) (2 ^ 127) h))

pub one_or_kept : (a : Atom) (m : answers.Merged) → IsOneOrKept a m → merging_of m ≡ into_within a
one_or_kept a answer_is.True h = absurd h
one_or_kept a answer_is.False h = absurd h
one_or_kept a (answer_is.One e) h = ap Into h.0 ∙ within_is a h.2.constant_within
one_or_kept a answer_is.Keep h = past_is a h

pub one_is : (a : Atom) (m : answers.Merged) → IsOne a m → merging_of m ≡ Into a
one_is a answer_is.True h = absurd h
one_is a answer_is.False h = absurd h
one_is a (answer_is.One e) h = ap Into h.0
one_is a answer_is.Keep h = absurd h

-- congruences of one modulus k and the same terms; k is the program's number
class_part : (j : Junction) (m : ℕ) (b : Bool) (f : Form) (d : Bool) (g : Form) → f.terms ≡ g.terms → is_same_part (Congruent b m f) (Congruent d m g) ≡ true
class_part j m b f d g h = both_true (nat_eq m m) (same_terms f.terms g.terms) (eq-eqb m m refl) (same_of f.terms g.terms h)

pub class_so : (j : Junction) (k : ℤ) → pos 0 <ℤ k → (b : Bool) (f : Form) (d : Bool) (g : Form) → f.terms ≡ g.terms → (v : Class) → v ≡ class j k b f.constant d g.constant
    → (m : Merging Atom) → m ≡ of_class j (unsigned_abs k) b f d g v → m ≡ merged Integers j (Congruent b (unsigned_abs k) f) (Congruent d (unsigned_abs k) g)
class_so j k p b f d g h v e m q =
    q ∙ ap (of_class j (unsigned_abs k) b f d g) (e ∙ ap (λ (x : ℤ). class j x b f.constant d g.constant) (modulus_back k p))
    ∙ merged_same Integers j (Congruent b (unsigned_abs k) f) (Congruent d (unsigned_abs k) g) (class_part j (unsigned_abs k) b f d g h)

pub class_decided : (k : ℤ) → pos 0 <ℤ k → (b : Bool) (f : Form) (d : Bool) (g : Form) → f.terms ≡ g.terms → (x y : Bool)
    → is_settled_class (both_classes k b f.constant (not d) g.constant) ≡ x → is_settled_class (both_classes k b f.constant d g.constant) ≡ y
    → answer x y ≡ decided_by Integers (Congruent b (unsigned_abs k) f) (Congruent d (unsigned_abs k) g)
class_decided k p b f d g h x y u v =
    (λ t. answer (sym u t) (sym v t))
    ∙ ap (λ (z : ℤ). answer (is_settled_class (both_classes z b f.constant (not d) g.constant)) (is_settled_class (both_classes z b f.constant d g.constant))) (modulus_back k p)
    ∙ decided_same Integers (Congruent b (unsigned_abs k) f) (Congruent d (unsigned_abs k) g) (class_part Conjunction (unsigned_abs k) b f d g h)

pub class_settled : (v : Class) → v ≡ class_is.Settled → is_settled_class v ≡ true
class_settled v e = ap is_settled_class e

pub class_unsettled : (v : Class) → ¬ (v ≡ class_is.Settled) → is_settled_class v ≡ false
class_unsettled class_is.Settled n = absurd (n refl)
class_unsettled class_is.First n = refl
class_unsettled class_is.Second n = refl
class_unsettled class_is.Third n = refl
class_unsettled class_is.Kept n = refl

class_apart : (m n : ℤ) → pos 0 <ℤ m → pos 0 <ℤ n → (b : Bool) (f : Form) (d : Bool) (g : Form) → ¬ ((m ≡ n) × (f.terms ≡ g.terms)) → is_same_part (Congruent b (unsigned_abs m) f) (Congruent d (unsigned_abs n) g) ≡ false
class_apart m n p q b f d g h = split (is_same_part (Congruent b (unsigned_abs m) f) (Congruent d (unsigned_abs n) g)) refl
  where
    split : (t : Bool) → is_same_part (Congruent b (unsigned_abs m) f) (Congruent d (unsigned_abs n) g) ≡ t → t ≡ false
    split true e = let k = part_told (Congruent b (unsigned_abs m) f) (Congruent d (unsigned_abs n) g) e in absurd (h (modulus_back m p ∙ ap pos k.0 ∙ sym (modulus_back n q), k.1))
    split false e = refl

pub merged_classes_apart : (c : Context) (j : Junction) (m n : ℤ) → pos 0 <ℤ m → pos 0 <ℤ n → (b : Bool) (f : Form) (d : Bool) (g : Form) → ¬ ((m ≡ n) × (f.terms ≡ g.terms)) → Kept ≡ merged c j (Congruent b (unsigned_abs m) f) (Congruent d (unsigned_abs n) g)
merged_classes_apart c j m n p q b f d g h = merged_apart c j (Congruent b (unsigned_abs m) f) (Congruent d (unsigned_abs n) g) (class_apart m n p q b f d g h)

pub decided_classes_apart : (c : Context) (m n : ℤ) → pos 0 <ℤ m → pos 0 <ℤ n → (b : Bool) (f : Form) (d : Bool) (g : Form) → ¬ ((m ≡ n) × (f.terms ≡ g.terms)) → None ≡ decided_by c (Congruent b (unsigned_abs m) f) (Congruent d (unsigned_abs n) g)
decided_classes_apart c m n p q b f d g h = decided_apart c (Congruent b (unsigned_abs m) f) (Congruent d (unsigned_abs n) g) (class_apart m n p q b f d g h)
