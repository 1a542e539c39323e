-- Two congruences of one modulus and the same terms joined: what their class owes.
use Rattle.std.proofs.Common.{◌≡◌, ◌↔◌, ◌<◌, ℕ, Bool, true, false, not, ◌&&◌, sym, subst, ◌∙◌, ap, refl, arith}
use Rattle.std.proofs.Math.IntN.{ℤ, pos, neg_ℤ, ◌+ℤ◌, ◌-ℤ◌}
use Rattle.std.specs.Prelude.{◌<ℤ◌, unsigned_abs}
use Rattle.std.specs.Ordering.{int_eq}
use Rattle.std.proofs.lemmas.Int.{ints}
use Rattle.exact_numbers.specs.Limit.{PastLimit}
use Rattle.exact_numbers.specs.Divides.{Divides, residue_of}
use Rattle.exact_numbers.proofs.Divisibility.{divides_along, divides_add, divides_neg}
use Rattle.exact_numbers.proofs.Floor.{residue_is, residues_same}
use Rattle.logic_meaning.specs.Context.{Integers}
use Rattle.logic_meaning.specs.Form.{Form}
use Rattle.logic_meaning.specs.Atom.{Atom, Compare, Congruent, form_of}
use Rattle.logic_meaning.specs.declared.junction.Junction.{Junction}
use Rattle.logic_meaning.specs.declared.junction.Junction.TheVariants.{Conjunction, Disjunction}
use Rattle.linear_forms.proofs.Residues.{residue_stays}
use Rattle.logic_meaning.specs.NormalForm.{IsNormalCongruence}
use Rattle.normal_atoms.proofs.Relations.{chain, along}
use Rattle.normal_atoms.specs.declared.atom_merging_congruence.Class.{Class}
use Rattle.normal_atoms.specs.declared.atom_merging_congruence.Class.TheVariants.{Settled, First, Second, Third, Kept}
use Rattle.logic_meaning.specs.Merging.{SamePart, Settles, MergesInto, IsKept, Implies, Excludes}
use Rattle.normal_atoms.specs.Classes.{both_classes, class}
use Rattle.normal_atoms.proofs.ResidueClasses.{told, IsClass, IsSpread, StaysApart, LeavesThird, OnClasses, classes_judged, same_test, test_same, other_test}
use Rattle.normal_atoms.proofs.Sets.{flip, IsTest, settles_by, settles_says, merges_by, merges_says}

-- ---- a congruence as a test of one residue

-- the constant with which n is a multiple of m
abbrev pub rest : ℤ → ℤ → ℤ
rest m n = residue_of (neg_ℤ n) m

pub rest_class : (m n : ℤ) → pos 0 <ℤ m → IsClass m (rest m n)
rest_class m n p = let r = residue_is (neg_ℤ n) m p in record { not_negative = r.not_negative; below = r.below }

pub rest_of_class : (m x : ℤ) → pos 0 <ℤ m → IsClass m x → rest m (neg_ℤ x) ≡ x
rest_of_class m x p k =
    let e : neg_ℤ (neg_ℤ x) ≡ x = omega (arith, ints) in
    ap (λ z. residue_of z m) e ∙ residue_stays m p x k.not_negative k.below

rest_divides : (m n c : ℤ) → pos 0 <ℤ m → IsClass m c → Divides m (n +ℤ c) ↔ (c ≡ rest m n)
rest_divides m n c p k =
    let r = residue_is (neg_ℤ n) m p in (
      λ h. let e : (n +ℤ c) +ℤ (neg_ℤ n -ℤ rest m n) ≡ c -ℤ rest m n = omega (arith, ints) in
          residues_same k.not_negative k.below r.not_negative r.below (divides_along e (divides_add h r.same)),
      λ (h : c ≡ rest m n). let e : neg_ℤ (neg_ℤ n -ℤ rest m n) ≡ n +ℤ c = omega (arith, ints) in divides_along e (divides_neg r.same),
    )

same_tested : (a b : ℤ) → (a ≡ b) ↔ (int_eq a b ≡ true)
same_tested a b = (same_test a b, test_same a b)

opposite_tested : (t : Bool) {P : Type 0} → P ↔ (t ≡ true) → (¬ P) ↔ (not t ≡ true)
opposite_tested true e = (λ n. absurd (n (e.1 refl)), λ h. absurd (cc))
opposite_tested false e = (λ n. refl, λ h k. let l = e.0 k in cc)

class_test : (n c m : ℤ) → pos 0 <ℤ m → IsClass m c → Divides m (n +ℤ c) ↔ (int_eq c (rest m n) ≡ true)
class_test n c m p k = chain (rest_divides m n c p k) (same_tested c (rest m n))

pub congruence_test : (b : Bool) (k : ℕ) (f : Form) (m : ℤ) → m ≡ pos k → pos 0 <ℤ m → IsClass m f.constant → IsTest Integers (Congruent b k f) (λ n d. told b (int_eq f.constant (rest m n)))
congruence_test true k f m e p h = record { stands = λ n d z. chain (along (λ (x : ℤ). Divides x (n +ℤ f.constant)) (sym e)) (class_test n f.constant m p h) }
congruence_test false k f m e p h =
    record { stands = λ n d z. opposite_tested (int_eq f.constant (rest m n)) (chain (along (λ (x : ℤ). Divides x (n +ℤ f.constant)) (sym e)) (class_test n f.constant m p h)) }

told_flip : (j : Junction) (b t : Bool) → flip j (told b t) ≡ told (flip j b) t
told_flip Conjunction b t = refl
told_flip Disjunction true t = refl
told_flip Disjunction false true = refl
told_flip Disjunction false false = refl

class_flipped : (j : Junction) (m : ℤ) (b : Bool) (c : ℤ) (d : Bool) (e : ℤ) → class j m b c d e ≡ both_classes m (flip j b) c (flip j d) e
class_flipped Conjunction m b c d e = refl
class_flipped Disjunction m b c d e = refl

pub modulus_back : (m : ℤ) → pos 0 <ℤ m → m ≡ pos (unsigned_abs m)
modulus_back m p = omega (arith, ints)

modulus_above : (m : ℤ) → 1 < unsigned_abs m → pos 0 <ℤ m → pos 1 <ℤ m
modulus_above m h p = omega (arith, ints)

pub normal_class : (b : Bool) (m : ℤ) (f : Form) → pos 0 <ℤ m → IsNormalCongruence b (unsigned_abs m) f → IsClass m f.constant
normal_class b m f p n =
    let e = modulus_back m p in
    record { not_negative = n.reduced.0.0; below = subst (λ z. f.constant <ℤ z) (sym e) n.reduced.0.1 }

-- no congruence has two classes in and two out
no_class : (m c e : ℤ) → IsClass m c → IsClass m e → ¬ (c ≡ e) → IsSpread m c e → (q : Bool) (h : ℤ) → ((x : ℤ) → IsClass m x → told q (int_eq h x) ≡ (not (int_eq c x) && not (int_eq e x))) → ⊥
no_class m c e k l n s true h f =
    let a = f s.first s.first_class ∙ (λ i. not (other_test c s.first s.first_of.0 i) && not (other_test e s.first s.first_of.1 i)) in
    let b = f s.second s.second_class ∙ (λ i. not (other_test c s.second s.second_of.0 i) && not (other_test e s.second s.second_of.1 i)) in
    s.differ (sym (test_same h s.first a) ∙ test_same h s.second b)
no_class m c e k l n s false h f =
    let a = f c k ∙ (λ i. not (same_test c c refl i) && not (int_eq e c)) in
    let b = f e l ∙ (λ i. not (other_test c e n i) && not (same_test e e refl i)) in
    n (sym (test_same h c (back (int_eq h c) a)) ∙ test_same h e (back (int_eq h e) b))
  where
    back : (t : Bool) → not t ≡ false → t ≡ true
    back true q = refl
    back false q = cc

module _ (m : ℤ) (p : pos 0 <ℤ m) (b : Bool) (f : Form) (d : Bool) (g : Form) (x : IsNormalCongruence b (unsigned_abs m) f) (y : IsNormalCongruence d (unsigned_abs m) g) (same : f.terms ≡ g.terms) where
  abbrev pub first_atom : Atom
  first_atom = Congruent b (unsigned_abs m) f

  abbrev pub second_atom : Atom
  second_atom = Congruent d (unsigned_abs m) g

  first_class : IsClass m f.constant
  first_class = normal_class b m f p x

  second_class : IsClass m g.constant
  second_class = normal_class d m g p y

  abbrev first_test : ℤ → ℕ → Bool
  first_test n k = told b (int_eq f.constant (rest m n))

  abbrev second_test : ℤ → ℕ → Bool
  second_test n k = told d (int_eq g.constant (rest m n))

  first_is : IsTest Integers first_atom first_test
  first_is = congruence_test b (unsigned_abs m) f m (modulus_back m p) p first_class

  second_is : IsTest Integers second_atom second_test
  second_is = congruence_test d (unsigned_abs m) g m (modulus_back m p) p second_class

  same_part : SamePart first_atom second_atom
  same_part = (refl, same)

  pub judged_classes : (q t : Bool) (v : Class) → v ≡ both_classes m q f.constant t g.constant → OnClasses m q f.constant t g.constant v
  judged_classes q t v e =
      subst (OnClasses m q f.constant t g.constant) (sym e)
      (classes_judged m q f.constant t g.constant (modulus_above m x.above_one p) first_class second_class)

  module _ (j : Junction) where
    pub judged_class : (v : Class) → v ≡ class j m b f.constant d g.constant → OnClasses m (flip j b) f.constant (flip j d) g.constant v
    judged_class v e = judged_classes (flip j b) (flip j d) v (e ∙ class_flipped j m b f.constant d g.constant)

    meet_at : (z : ℤ) → (flip j (told b (int_eq f.constant z)) && flip j (told d (int_eq g.constant z))) ≡ (told (flip j b) (int_eq f.constant z) && told (flip j d) (int_eq g.constant z))
    meet_at z = λ i. told_flip j b (int_eq f.constant z) i && told_flip j d (int_eq g.constant z) i

    pub classes_settle : OnClasses m (flip j b) f.constant (flip j d) g.constant Settled → Settles Integers j first_atom second_atom
    classes_settle h = settles_by Integers j first_atom second_atom first_test second_test first_is second_is same_part (λ n k z. meet_at (rest m n) ∙ h (rest m n) (rest_class m n p))

    pub unsettled_at : (z : ℤ) → IsClass m z → (told (flip j b) (int_eq f.constant z) && told (flip j d) (int_eq g.constant z)) ≡ true → ¬ (Settles Integers j first_atom second_atom)
    unsettled_at z k h s =
        let e = rest_of_class m z p k in
        let u = settles_says Integers j first_atom second_atom first_test second_test first_is second_is s (neg_ℤ z) 1 refl in
        let w : true ≡ false = sym h ∙ sym (meet_at z) ∙ (λ i. flip j (told b (int_eq f.constant (sym e i))) && flip j (told d (int_eq g.constant (sym e i)))) ∙ u in
        cc

    pub merges_first : OnClasses m (flip j b) f.constant (flip j d) g.constant First → MergesInto Integers j first_atom second_atom first_atom
    merges_first h =
        merges_by Integers j first_atom second_atom first_test second_test first_is second_is first_atom first_test first_is same_part (refl, refl) x
        (λ n k z. told_flip j b (int_eq f.constant (rest m n)) ∙ h.0 (rest m n) (rest_class m n p) ∙ sym (meet_at (rest m n)))

    pub merges_second : OnClasses m (flip j b) f.constant (flip j d) g.constant Second → MergesInto Integers j first_atom second_atom second_atom
    merges_second h =
        merges_by Integers j first_atom second_atom first_test second_test first_is second_is second_atom second_test second_is same_part same_part y
        (λ n k z. told_flip j d (int_eq g.constant (rest m n)) ∙ h.0 (rest m n) (rest_class m n p) ∙ sym (meet_at (rest m n)))

    -- the third class, for a union all but it
    abbrev pub third_form : Form
    third_form = record { terms = f.terms; constant = (pos 3 -ℤ f.constant) -ℤ g.constant }

    abbrev pub third_atom : Bool → Atom
    third_atom q = Congruent q (unsigned_abs m) third_form

    third_normal : (q : Bool) → LeavesThird m (flip j b) f.constant (flip j d) g.constant → IsNormalCongruence q (unsigned_abs m) third_form
    third_normal q h =
        let w = h.is_class.not_negative in
        let v = h.is_class.below in
        let e = modulus_back m p in
        let t = h.three in
        let s = x.sorted in
        record {
          above_one = x.above_one;
          sorted = record { rising = s.rising; nonzero = s.nonzero };
          reduced = ((w, subst (λ z. ((pos 3 -ℤ f.constant) -ℤ g.constant) <ℤ z) e v), x.reduced.1);
          coprime = x.coprime;
          small = x.small;
          told = λ (u : unsigned_abs m ≡ 2). absurd (omega (arith, ints));
        }

    pub merges_third : (q : Bool) → flip j q ≡ true → LeavesThird m (flip j b) f.constant (flip j d) g.constant → MergesInto Integers j first_atom second_atom (third_atom q)
    merges_third q u h =
        merges_by Integers j first_atom second_atom first_test second_test first_is second_is (third_atom q) (λ n k. told q (int_eq third_form.constant (rest m n)))
        (congruence_test q (unsigned_abs m) third_form m (modulus_back m p) p h.is_class) same_part (refl, refl) (third_normal q h)
        (λ n k z. told_flip j q (int_eq third_form.constant (rest m n)) ∙ ap (λ v. told v (int_eq third_form.constant (rest m n))) u ∙ h.third (rest m n) (rest_class m n p) ∙ sym (meet_at (rest m n)))

    kept_past : StaysApart m (flip j b) f.constant (flip j d) g.constant → (e : Atom) → MergesInto Integers j first_atom second_atom e → PastLimit (form_of e).constant
    kept_past h (Compare r k) l = absurd l.keeps_part
    kept_past h (Congruent q o k) l =
        let w : m ≡ pos o = modulus_back m p ∙ ap pos l.keeps_part.0 in
        let c : IsClass m k.constant = record { not_negative = l.normal.reduced.0.0; below = subst (λ z. k.constant <ℤ z) (sym w) l.normal.reduced.0.1 } in
        let u = merges_says Integers j first_atom second_atom first_test second_test first_is second_is (Congruent q o k) (λ n v. told q (int_eq k.constant (rest m n))) (congruence_test q o k m w p c) l in
        absurd (no_class m f.constant g.constant first_class second_class h.differ h.spread (flip j q) k.constant
        (λ z i.
        let e = rest_of_class m z p i in
        sym (told_flip j q (int_eq k.constant z)) ∙ (λ s. flip j (told q (int_eq k.constant (sym e s)))) ∙ u (neg_ℤ z) 1 refl
        ∙ (λ s. flip j (told b (int_eq f.constant (e s))) && flip j (told d (int_eq g.constant (e s)))) ∙ meet_at z
        ∙ (λ s. told (h.first_opposed s) (int_eq f.constant z) && told (h.second_opposed s) (int_eq g.constant z))))

    pub classes_kept : StaysApart m (flip j b) f.constant (flip j d) g.constant → IsKept Integers j first_atom second_atom
    classes_kept h = record {
      unsettled = unsettled_at h.spread.first h.spread.first_class (met_in_spread h);
      past_limit = kept_past h;
    }
      where
        met_in_spread : (h : StaysApart m (flip j b) f.constant (flip j d) g.constant) → (told (flip j b) (int_eq f.constant h.spread.first) && told (flip j d) (int_eq g.constant h.spread.first)) ≡ true
        met_in_spread h = λ i. told (h.first_opposed i) (other_test f.constant h.spread.first h.spread.first_of.0 i) && told (h.second_opposed i) (other_test g.constant h.spread.first h.spread.first_of.1 i)

  -- ---- deciding

  follows : (a t : Bool) → a ≡ true → (a && t) ≡ false → t ≡ false
  follows true t h e = e
  follows false t h e = absurd (cc)

  opposite_told : (q t : Bool) → told (not q) t ≡ not (told q t)
  opposite_told true t = refl
  opposite_told false true = refl
  opposite_told false false = refl

  shown : (t : Bool) → not t ≡ false → t ≡ true
  shown true e = refl
  shown false e = cc

  pub class_implies : OnClasses m b f.constant (not d) g.constant Settled → Implies Integers first_atom second_atom
  class_implies h = record {
    same_part = same_part;
    within = λ n k z l.
        let u = (first_is.stands n k z).0 l in
        let w = follows (first_test n k) (told (not d) (int_eq g.constant (rest m n))) u (h (rest m n) (rest_class m n p)) in
        (second_is.stands n k z).1 (shown (second_test n k) (sym (opposite_told d (int_eq g.constant (rest m n))) ∙ w));
  }

  -- some residue meets both
  record MeetsClasses (q t : Bool) : Type 0 where
    at : ℤ
    is_class : IsClass m at
    met : (told q (int_eq f.constant at) && told t (int_eq g.constant at)) ≡ true

  meets_classes : (q t : Bool) (v : Class) → OnClasses m q f.constant t g.constant v → ¬ (v ≡ Settled) → MeetsClasses q t
  meets_classes q t Settled h n = absurd (n refl)
  meets_classes q t First h n = record { at = h.1.at; is_class = h.1.is_class; met = sym (h.0 h.1.at h.1.is_class) ∙ h.1.met }
  meets_classes q t Second h n = record { at = h.1.at; is_class = h.1.is_class; met = sym (h.0 h.1.at h.1.is_class) ∙ h.1.met }
  meets_classes q t Third h n = record { at = (pos 3 -ℤ f.constant) -ℤ g.constant; is_class = h.is_class; met = sym (h.third ((pos 3 -ℤ f.constant) -ℤ g.constant) h.is_class) ∙ same_test ((pos 3 -ℤ f.constant) -ℤ g.constant) ((pos 3 -ℤ f.constant) -ℤ g.constant) refl }
  meets_classes q t Kept h n = record {
    at = h.spread.first;
    is_class = h.spread.first_class;
    met = λ i. told (h.first_opposed i) (other_test f.constant h.spread.first h.spread.first_of.0 i) && told (h.second_opposed i) (other_test g.constant h.spread.first h.spread.first_of.1 i);
  }

  split : (a t : Bool) → (a && t) ≡ true → (a ≡ true) × (t ≡ true)
  split true true h = (refl, refl)
  split true false h = absurd (cc)
  split false t h = absurd (cc)

  pub not_class_implies : (v : Class) → OnClasses m b f.constant (not d) g.constant v → ¬ (v ≡ Settled) → ¬ (Implies Integers first_atom second_atom)
  not_class_implies v h n k =
      let o = meets_classes b (not d) v h n in
      let w = split (told b (int_eq f.constant o.at)) (told (not d) (int_eq g.constant o.at)) o.met in
      let e = rest_of_class m o.at p o.is_class in
      let u = (first_is.stands (neg_ℤ o.at) 1 refl).1 (ap (λ z. told b (int_eq f.constant z)) e ∙ w.0) in
      let i = (second_is.stands (neg_ℤ o.at) 1 refl).0 (k.within (neg_ℤ o.at) 1 refl u) in
      let s : true ≡ not true = sym w.1 ∙ opposite_told d (int_eq g.constant o.at) ∙ ap not (ap (λ z. told d (int_eq g.constant z)) (sym e) ∙ i) in
      cc

  pub not_class_excludes : (v : Class) → OnClasses m b f.constant d g.constant v → ¬ (v ≡ Settled) → ¬ (Excludes Integers first_atom second_atom)
  not_class_excludes v h n k =
      let o = meets_classes b d v h n in
      unsettled_at Conjunction o.at o.is_class o.met k
