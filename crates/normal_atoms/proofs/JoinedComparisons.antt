-- Two comparisons joined: what their verdict owes.
use Rattle.std.proofs.Common.{◌≡◌, ◌↔◌, ℕ, Bool, true, false, not, ◌&&◌, List, [], ◌∷◌, sym, subst, ◌∙◌, ap, refl, arith}
use Rattle.std.proofs.Math.IntN.{ℤ, pos, ◌+ℤ◌, ◌*ℤ◌}
use Rattle.std.specs.Prelude.{◌<ℤ◌, ◌≤ℤ◌}
use Rattle.std.proofs.lemmas.Int.{ints}
use Rattle.exact_numbers.specs.Limit.{InLimit, PastLimit}
use Rattle.exact_numbers.specs.Divides.{content_of}
use Rattle.exact_numbers.proofs.Ring.{mul_one}
use Rattle.exact_numbers.proofs.Contents.{content_is}
use Rattle.logic_meaning.specs.Context.{Context, Fields, Integers, IsDenominator}
use Rattle.logic_meaning.specs.Form.{Form, Term}
use Rattle.logic_meaning.specs.Atom.{Relation, Equals, Differs, Below, AtMost, Above, AtLeast, Atom, Compare, Congruent, opposite_relation, form_of}
use Rattle.logic_meaning.specs.declared.junction.Junction.{Junction}
use Rattle.logic_meaning.specs.declared.junction.Junction.TheVariants.{Conjunction, Disjunction}
use Rattle.logic_meaning.specs.Terms.{coefficients}
use Rattle.logic_meaning.specs.NormalForm.{holds, first, IsNormal, IsOriented}
use Rattle.normal_atoms.proofs.Relations.{holds_so, content_positive, chain}
use Rattle.normal_atoms.specs.declared.atom_merging_comparison.Position.{Position}
use Rattle.normal_atoms.specs.Positions.{IsPosition, IsContentIn}
use Rattle.logic_meaning.specs.Merging.{variable_part, SamePart, Settles, MergesInto, IsKept, Implies, Excludes}
use Rattle.normal_atoms.specs.Verdicts.{Verdict, Settled, Kept, First, Second, both, opposed, verdict, normal_comparison}
use Rattle.normal_atoms.proofs.Tables.{opposite_holds}
use Rattle.normal_atoms.proofs.Mixed.{no_comparison}
use Rattle.normal_atoms.proofs.Thresholds.{order_at, IsRelationIn, content_positive_in, unit_order, Stays, Reaches, OnBoth, judged}
use Rattle.normal_atoms.proofs.Sets.{flip, toward, holds_toward, toward_twice, flip_same, IsTest, settles_by, settles_says, merges_by, merges_says}
use Rattle.normal_atoms.proofs.Unique.{opposite_integer, unique_below, unique_at_least}

-- ---- normal comparisons

abbrev pub content : Form → ℤ
content f = content_of (coefficients f.terms)

oriented_content : (f : Form) → IsOriented f → pos 0 <ℤ content f
oriented_content f o = positive f.terms o.positive
  where
    positive : (ts : List Term) → pos 0 <ℤ first ts → pos 0 <ℤ content_of (coefficients ts)
    positive [] h = absurd (omega (arith, ints, h))
    positive (t ∷ ts) h = content_positive (coefficients (t ∷ ts)) t.times (content_is (coefficients (t ∷ ts))).divides.0 (λ (e : t.times ≡ pos 0). omega (arith, ints))

pub normal_content : (c : Context) (r : Relation) (f : Form) → IsNormal c (Compare r f) → IsContentIn c (content f)
normal_content Fields r f n = oriented_content f n.oriented
normal_content Integers r f n = n.coprime

pub normal_relation : (c : Context) (r : Relation) (f : Form) → IsNormal c (Compare r f) → IsRelationIn c r
normal_relation Fields r f n = tt
normal_relation Integers r f n = n.relation

pub relation_toward : (c : Context) (j : Junction) (r : Relation) → IsRelationIn c r → IsRelationIn c (toward j r)
relation_toward Fields j r i = tt
relation_toward Integers Conjunction r i = i
relation_toward Integers Disjunction r i = opposite_integer r i

-- the test of a comparison
abbrev pub test : Relation → Form → ℤ → ℕ → Bool
test r f n d = holds r (order_at (content f) f.constant n d)

pub comparison_test : (c : Context) (r : Relation) (f : Form) → IsTest c (Compare r f) (test r f)
comparison_test c r f = record { stands = λ n d z. holds_so r (content f *ℤ n +ℤ f.constant *ℤ pos d) (pos 0) }

-- ---- a comparison that is moved to a normal one

raised : (a : ℤ) (d : ℕ) → d ≡ 1 → (a +ℤ pos 1) *ℤ pos d ≡ a *ℤ pos d +ℤ pos 1
raised a d e = ap (λ z. (a +ℤ pos 1) *ℤ pos z) e ∙ mul_one (a +ℤ pos 1) ∙ sym (ap (λ w. w +ℤ pos 1) (ap (λ z. a *ℤ pos z) e ∙ mul_one a))

raised_below : (x y z : ℤ) → z ≡ y +ℤ pos 1 → ((x +ℤ z) ≤ℤ pos 0) ↔ ((x +ℤ y) <ℤ pos 0)
raised_below x y z e = (λ (h : (x +ℤ z) ≤ℤ pos 0). omega (arith, ints), λ (h : (x +ℤ y) <ℤ pos 0). omega (arith, ints))

raised_at_least : (x y z : ℤ) → z ≡ y +ℤ pos 1 → (pos 0 <ℤ (x +ℤ z)) ↔ (pos 0 ≤ℤ (x +ℤ y))
raised_at_least x y z e = (λ (h : pos 0 <ℤ (x +ℤ z)). omega (arith, ints), λ (h : pos 0 ≤ℤ (x +ℤ y)). omega (arith, ints))

pub normal_test : (c : Context) (q : Relation) (f : Form) → IsTest c (normal_comparison c q f) (test q f)
normal_test Fields q f = comparison_test Fields q f
normal_test Integers Below f = record { stands = λ n d z. chain (raised_below (content f *ℤ n) (f.constant *ℤ pos d) ((f.constant +ℤ pos 1) *ℤ pos d) (raised f.constant d z)) ((comparison_test Integers Below f).stands n d z) }
normal_test Integers AtLeast f = record { stands = λ n d z. chain (raised_at_least (content f *ℤ n) (f.constant *ℤ pos d) ((f.constant +ℤ pos 1) *ℤ pos d) (raised f.constant d z)) ((comparison_test Integers AtLeast f).stands n d z) }
normal_test Integers Equals f = comparison_test Integers Equals f
normal_test Integers Differs f = comparison_test Integers Differs f
normal_test Integers AtMost f = comparison_test Integers AtMost f
normal_test Integers Above f = comparison_test Integers Above f

other_constant : (f : Form) (k : ℤ) → IsOriented f → IsOriented (record { terms = f.terms; constant = k })
other_constant f k o = record { sorted = record { rising = o.sorted.rising; nonzero = o.sorted.nonzero }; positive = o.positive }

pub normal_is : (c : Context) (r q : Relation) (f : Form) → IsNormal c (Compare r f) → IsNormal c (normal_comparison c q f)
normal_is Fields r q f n = record { oriented = n.oriented; coprime = n.coprime }
normal_is Integers r Below f n = record { relation = tt; oriented = other_constant f (f.constant +ℤ pos 1) n.oriented; coprime = n.coprime }
normal_is Integers r AtLeast f n = record { relation = tt; oriented = other_constant f (f.constant +ℤ pos 1) n.oriented; coprime = n.coprime }
normal_is Integers r Equals f n = record { relation = tt; oriented = n.oriented; coprime = n.coprime }
normal_is Integers r Differs f n = record { relation = tt; oriented = n.oriented; coprime = n.coprime }
normal_is Integers r AtMost f n = record { relation = tt; oriented = n.oriented; coprime = n.coprime }
normal_is Integers r Above f n = record { relation = tt; oriented = n.oriented; coprime = n.coprime }

part_of_normal : (c : Context) (r q : Relation) (f g : Form) → variable_part f.terms ≡ variable_part g.terms → SamePart (Compare r f) (normal_comparison c q g)
part_of_normal Fields r q f g e = e
part_of_normal Integers r Below f g e = e
part_of_normal Integers r AtLeast f g e = e
part_of_normal Integers r Equals f g e = e
part_of_normal Integers r Differs f g e = e
part_of_normal Integers r AtMost f g e = e
part_of_normal Integers r Above f g e = e

contradiction : (z : ℤ) {P : Type 0} → InLimit z → PastLimit z → P
contradiction z a b = absurd (omega arith)

-- a normal comparison that stands for the same numbers as one whose constant passes the limit has its constant
same_constant : (c : Context) (q t : Relation) (f e : Form) → IsNormal c (Compare t e) → IsContentIn c (content f) → InLimit f.constant → PastLimit (form_of (normal_comparison c q f)).constant
    → ((n : ℤ) (d : ℕ) → IsDenominator c d → test t e n d ≡ test q f n d) → (form_of (normal_comparison c q f)).constant ≡ e.constant
same_constant Fields q t f e n x w p h = contradiction f.constant w p
same_constant Integers Below t f e n x w p h =
    sym (unique_below e.constant f.constant t n.relation (λ m. ap (holds t) (sym (unit_order (content e) e.constant m 1 n.coprime refl)) ∙ h m 1 refl ∙ ap (holds Below) (unit_order (content f) f.constant m 1 x refl)))
same_constant Integers AtLeast t f e n x w p h =
    sym (unique_at_least e.constant f.constant t n.relation (λ m. ap (holds t) (sym (unit_order (content e) e.constant m 1 n.coprime refl)) ∙ h m 1 refl ∙ ap (holds AtLeast) (unit_order (content f) f.constant m 1 x refl)))
same_constant Integers Equals t f e n x w p h = contradiction f.constant w p
same_constant Integers Differs t f e n x w p h = contradiction f.constant w p
same_constant Integers AtMost t f e n x w p h = contradiction f.constant w p
same_constant Integers Above t f e n x w p h = contradiction f.constant w p

-- ---- the verdict of a junction

abbrev pub turned : Junction → Verdict → Verdict
turned j Settled = Settled
turned j Kept = Kept
turned j (First q) = First (toward j q)
turned j (Second q) = Second (toward j q)

turned_twice : (j : Junction) (v : Verdict) → turned j (turned j v) ≡ v
turned_twice j Settled = refl
turned_twice j Kept = refl
turned_twice j (First q) = ap First (toward_twice j q)
turned_twice j (Second q) = ap Second (toward_twice j q)

verdict_turned : (j : Junction) (p : Position) (r s : Relation) → verdict j p r s ≡ turned j (both p (toward j r) (toward j s))
verdict_turned Conjunction p r s = alike (both p r s)
  where
    alike : (v : Verdict) → v ≡ turned Conjunction v
    alike Settled = refl
    alike Kept = refl
    alike (First q) = refl
    alike (Second q) = refl
verdict_turned Disjunction p r s = alike (both p (opposite_relation r) (opposite_relation s))
  where
    alike : (v : Verdict) → opposed v ≡ turned Disjunction v
    alike Settled = refl
    alike Kept = refl
    alike (First q) = refl
    alike (Second q) = refl

-- the two comparisons, normal and with one variable part
module _ (c : Context) (r : Relation) (f : Form) (s : Relation) (g : Form) (x : IsNormal c (Compare r f)) (y : IsNormal c (Compare s g)) (same : variable_part f.terms ≡ variable_part g.terms) where
  abbrev pub OnForms : Relation → Relation → Verdict → Type 0
  OnForms q t v = OnBoth c q (content f) f.constant t (content g) g.constant v

  pub judged_both : (q t : Relation) → IsRelationIn c q → IsRelationIn c t → (p : Position) → IsPosition c (content f) f.constant (content g) g.constant p → (v : Verdict) → v ≡ both p q t → OnForms q t v
  judged_both q t i k p l v e =
      subst (λ (w : Verdict). OnForms q t w) (sym e)
      (judged c q (content f) f.constant t (content g) g.constant p (normal_content c r f x) (normal_content c s g y) i k l)

  module _ (j : Junction) where
    pub judged_verdict : (p : Position) → IsPosition c (content f) f.constant (content g) g.constant p → (v : Verdict) → v ≡ verdict j p r s → OnForms (toward j r) (toward j s) (turned j v)
    judged_verdict p l v e =
        judged_both (toward j r) (toward j s) (relation_toward c j r (normal_relation c r f x)) (relation_toward c j s (normal_relation c s g y)) p l (turned j v)
        (ap (turned j) (e ∙ verdict_turned j p r s) ∙ turned_twice j (both p (toward j r) (toward j s)))

    -- what both tests say, turned
    meet : ℤ → ℕ → Bool
    meet n d = flip j (test r f n d) && flip j (test s g n d)

    meet_toward : (n : ℤ) (d : ℕ) → meet n d ≡ (test (toward j r) f n d && test (toward j s) g n d)
    unfolding meet
    meet_toward n d = λ i. holds_toward j r (order_at (content f) f.constant n d) i && holds_toward j s (order_at (content g) g.constant n d) i

    pub settles : OnForms (toward j r) (toward j s) Settled → Settles c j (Compare r f) (Compare s g)
    unfolding meet
    settles h = settles_by c j (Compare r f) (Compare s g) (test r f) (test s g) (comparison_test c r f) (comparison_test c s g) same (λ n d z. meet_toward n d ∙ h n d z)

    unsettled : (n : ℤ) (d : ℕ) → IsDenominator c d → (test (toward j r) f n d && test (toward j s) g n d) ≡ true → ¬ (Settles c j (Compare r f) (Compare s g))
    unfolding meet
    unsettled n d z h k =
        let m = settles_says c j (Compare r f) (Compare s g) (test r f) (test s g) (comparison_test c r f) (comparison_test c s g) k n d z in
        let w : true ≡ false = sym h ∙ sym (meet_toward n d) ∙ m in
        cc

    -- a comparison that two merge into, by its test
    merged_test : (t : Relation) (e : Form) → MergesInto c j (Compare r f) (Compare s g) (Compare t e) → (n : ℤ) (d : ℕ) → IsDenominator c d → flip j (test t e n d) ≡ (test (toward j r) f n d && test (toward j s) g n d)
    unfolding meet
    merged_test t e m n d z =
        merges_says c j (Compare r f) (Compare s g) (test r f) (test s g) (comparison_test c r f) (comparison_test c s g) (Compare t e) (test t e) (comparison_test c t e) m n d z
        ∙ meet_toward n d

    kept_past : Stays c (toward j r) (content f) f.constant (toward j s) (content g) g.constant → (e : Atom) → MergesInto c j (Compare r f) (Compare s g) e → PastLimit (form_of e).constant
    kept_past h (Congruent b m e) k = absurd k.keeps_part
    kept_past h (Compare t e) k =
        absurd (no_comparison
        (λ n. test (toward j r) f n h.below && test (toward j s) g n h.below) h.mixed
        (content e) (e.constant *ℤ pos h.below) (content_positive_in c (content e) (normal_content c t e k.normal))
        (toward j t)
        (λ n. sym (holds_toward j t (order_at (content e) e.constant n h.below)) ∙ merged_test t e k n h.below h.allowed))

    pub stays_kept : OnForms (toward j r) (toward j s) Kept → IsKept c j (Compare r f) (Compare s g)
    stays_kept h = record {
      unsettled = unsettled h.mixed.first h.below h.allowed h.mixed.first_in;
      past_limit = kept_past h;
    }

    -- a verdict at the threshold of k, which is f or g
    module _ (q t : Relation) (k : Form) (z : IsNormal c (Compare t k)) (part : variable_part f.terms ≡ variable_part k.terms)
        (stands : (n : ℤ) (d : ℕ) → IsDenominator c d → test (toward j q) k n d ≡ (test (toward j r) f n d && test (toward j s) g n d)) where
      pub merges_at : MergesInto c j (Compare r f) (Compare s g) (normal_comparison c q k)
      unfolding meet
      merges_at =
          merges_by c j (Compare r f) (Compare s g) (test r f) (test s g) (comparison_test c r f) (comparison_test c s g) (normal_comparison c q k) (test q k) (normal_test c q k)
          same (part_of_normal c r q f k part) (normal_is c t q k z)
          (λ n d w. holds_toward j q (order_at (content k) k.constant n d) ∙ stands n d w ∙ sym (meet_toward n d))

      past_at : InLimit k.constant → PastLimit (form_of (normal_comparison c q k)).constant → (e : Atom) → MergesInto c j (Compare r f) (Compare s g) e → PastLimit (form_of e).constant
      past_at w p (Congruent b m e) l = absurd l.keeps_part
      past_at w p (Compare u e) l =
          subst PastLimit
          (same_constant c q u k e l.normal (normal_content c t k z) w p
          (λ n d v. flip_same j (test u e n d) (test q k n d) (merged_test u e l n d v ∙ sym (stands n d v) ∙ sym (holds_toward j q (order_at (content k) k.constant n d)))))
          p

      pub kept_at : Reaches c (toward j q) (content k) k.constant → InLimit k.constant → PastLimit (form_of (normal_comparison c q k)).constant → IsKept c j (Compare r f) (Compare s g)
      kept_at h w p = record {
        unsettled = unsettled h.at h.below h.allowed (sym (stands h.at h.below h.allowed) ∙ h.reached);
        past_limit = past_at w p;
      }

  -- ---- deciding

  not_false : (a b : Bool) → a ≡ true → (a && not b) ≡ false → b ≡ true
  not_false true true h e = refl
  not_false true false h e = absurd (cc)
  not_false false b h e = absurd (cc)

  pub implies : OnForms r (opposite_relation s) Settled → Implies c (Compare r f) (Compare s g)
  implies h = record {
    same_part = same;
    within = λ n d z m.
        let u = ((comparison_test c r f).stands n d z).0 m in
        let o = order_at (content g) g.constant n d in
        ((comparison_test c s g).stands n d z).1 (not_false (test r f n d) (test s g n d) u (ap (λ b. test r f n d && b) (sym (opposite_holds s o)) ∙ h n d z));
  }

  -- some number of the theory meets both
  record Meets (q t : Relation) : Type 0 where
    pub at : ℤ
    pub below : ℕ
    pub allowed : IsDenominator c below
    pub met : (test q f at below && test t g at below) ≡ true

  meets : (q t : Relation) (v : Verdict) → OnForms q t v → ¬ (v ≡ Settled) → Meets q t
  meets q t Settled h n = absurd (n refl)
  meets q t (First u) h n = record { at = h.1.at; below = h.1.below; allowed = h.1.allowed; met = sym (h.0 h.1.at h.1.below h.1.allowed) ∙ h.1.reached }
  meets q t (Second u) h n = record { at = h.1.at; below = h.1.below; allowed = h.1.allowed; met = sym (h.0 h.1.at h.1.below h.1.allowed) ∙ h.1.reached }
  meets q t Kept h n = record { at = h.mixed.first; below = h.below; allowed = h.allowed; met = h.mixed.first_in }

  split : (a b : Bool) → (a && b) ≡ true → (a ≡ true) × (b ≡ true)
  split true true h = (refl, refl)
  split true false h = absurd (cc)
  split false b h = absurd (cc)

  pub not_implies : (v : Verdict) → OnForms r (opposite_relation s) v → ¬ (v ≡ Settled) → ¬ (Implies c (Compare r f) (Compare s g))
  not_implies v h n k =
      let m = meets r (opposite_relation s) v h n in
      let w = split (test r f m.at m.below) (test (opposite_relation s) g m.at m.below) m.met in
      let u = ((comparison_test c s g).stands m.at m.below m.allowed).0 (k.within m.at m.below m.allowed (((comparison_test c r f).stands m.at m.below m.allowed).1 w.0)) in
      let o = order_at (content g) g.constant m.at m.below in
      let z : true ≡ not true = sym w.1 ∙ opposite_holds s o ∙ ap not u in
      cc

  pub not_excludes : (v : Verdict) → OnForms r s v → ¬ (v ≡ Settled) → ¬ (Excludes c (Compare r f) (Compare s g))
  not_excludes v h n k =
      let m = meets r s v h n in
      unsettled Conjunction m.at m.below m.allowed m.met k

-- atoms of different variable parts are kept, and decide nothing
pub apart_kept : (c : Context) (j : Junction) (a b : Atom) → ¬ (SamePart a b) → IsKept c j a b
apart_kept c j a b n = record { unsettled = λ h. n h.same_part; past_limit = λ e h. absurd (n h.same_part) }

pub apart_undecided : (c : Context) (a b : Atom) → ¬ (SamePart a b) → (¬ (Implies c a b)) × (¬ (Excludes c a b))
apart_undecided c a b n = (λ h. n h.same_part, λ h. n h.same_part)
