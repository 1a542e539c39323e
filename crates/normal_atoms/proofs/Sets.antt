-- Atoms' sets as tests, and joins of sets as joins of tests.
use Rattle.std.proofs.Common.{◌≡◌, ◌↔◌, ℕ, Bool, true, false, not, ◌&&◌, sym, ◌∙◌, ap, refl, inl, inr}
use Rattle.std.proofs.Math.IntN.{ℤ}
use Rattle.std.specs.declared.cmp.Ordering.{Ordering}
use Rattle.logic_meaning.specs.Context.{Context, IsDenominator}
use Rattle.logic_meaning.specs.Atom.{Relation, Equals, Differs, Below, AtMost, Above, AtLeast, Atom, opposite_relation}
use Rattle.logic_meaning.specs.declared.junction.Junction.{Junction}
use Rattle.logic_meaning.specs.declared.junction.Junction.TheVariants.{Conjunction, Disjunction}
use Rattle.logic_meaning.specs.NormalForm.{holds, IsNormal}
use Rattle.logic_meaning.specs.Merging.{SamePart, StandsFor, Joined, IsSettled, Settles, MergesInto}
use Rattle.normal_atoms.proofs.Tables.{opposite_holds}

-- the test as it is, or for a disjunction its opposite
abbrev pub flip : Junction → Bool → Bool
flip Conjunction a = a
flip Disjunction a = not a

abbrev pub toward : Junction → Relation → Relation
toward Conjunction r = r
toward Disjunction r = opposite_relation r

pub holds_toward : (j : Junction) (r : Relation) (o : Ordering) → flip j (holds r o) ≡ holds (toward j r) o
holds_toward Conjunction r o = refl
holds_toward Disjunction r o = sym (opposite_holds r o)

pub toward_twice : (j : Junction) (r : Relation) → toward j (toward j r) ≡ r
toward_twice Conjunction r = refl
toward_twice Disjunction Equals = refl
toward_twice Disjunction Differs = refl
toward_twice Disjunction Below = refl
toward_twice Disjunction AtMost = refl
toward_twice Disjunction Above = refl
toward_twice Disjunction AtLeast = refl

not_twice : (a : Bool) → not (not a) ≡ a
not_twice true = refl
not_twice false = refl

flip_twice : (j : Junction) (a : Bool) → flip j (flip j a) ≡ a
flip_twice Conjunction a = refl
flip_twice Disjunction a = not_twice a

pub flip_same : (j : Junction) (a b : Bool) → flip j a ≡ flip j b → a ≡ b
flip_same j a b e = sym (flip_twice j a) ∙ ap (flip j) e ∙ flip_twice j b

pub same_tests : (a b : Bool) → (a ≡ true) ↔ (b ≡ true) → a ≡ b
same_tests true b e = sym (e.0 refl)
same_tests false true e = e.1 refl
same_tests false false e = refl

joined_test : (j : Junction) {P Q : Type 0} (a b : Bool) → P ↔ (a ≡ true) → Q ↔ (b ≡ true) → Joined j P Q ↔ (flip j (flip j a && flip j b) ≡ true)
joined_test Conjunction true true p q = (λ h. refl, λ h. (p.1 refl, q.1 refl))
joined_test Conjunction true false p q = (λ h. q.0 h.1, λ h. absurd (cc))
joined_test Conjunction false b p q = (λ h. absurd (let k = p.0 h.0 in cc), λ h. absurd (cc))
joined_test Disjunction true b p q = (λ h. refl, λ h. inl (p.1 refl))
joined_test Disjunction false true p q = (λ h. refl, λ h. inr (q.1 refl))
joined_test Disjunction false false p q = (λ h. elim h [ inl x ↦ p.0 x | inr y ↦ q.0 y ], λ h. absurd (cc))

settled_test : (j : Junction) {P Q : Type 0} (a b : Bool) → P ↔ (a ≡ true) → Q ↔ (b ≡ true) → IsSettled j P Q ↔ ((flip j a && flip j b) ≡ false)
settled_test Conjunction true true p q = (λ n. absurd (n (p.1 refl, q.1 refl)), λ h. absurd (cc))
settled_test Conjunction true false p q = (λ n. refl, λ h k. let l = q.0 k.1 in cc)
settled_test Conjunction false b p q = (λ n. refl, λ h k. let l = p.0 k.0 in cc)
settled_test Disjunction true b p q = (λ h. refl, λ h. inl (p.1 refl))
settled_test Disjunction false true p q = (λ h. refl, λ h. inr (q.1 refl))
settled_test Disjunction false false p q = (λ h. elim h [ inl x ↦ absurd (let l = p.0 x in cc) | inr y ↦ absurd (let l = q.0 y in cc) ], λ h. absurd (cc))

-- the test decides the atom's set over the numbers of the theory
pub record IsTest (c : Context) (a : Atom) (A : ℤ → ℕ → Bool) : Type 0 where
  pub stands : (n : ℤ) (d : ℕ) → IsDenominator c d → StandsFor a n d ↔ (A n d ≡ true)

module _ (c : Context) (j : Junction) (a b : Atom) (A B : ℤ → ℕ → Bool) (p : IsTest c a A) (q : IsTest c b B) where
  pub settles_by : SamePart a b → ((n : ℤ) (d : ℕ) → IsDenominator c d → (flip j (A n d) && flip j (B n d)) ≡ false) → Settles c j a b
  settles_by s h = record { same_part = s; settled = λ n d z. (settled_test j (A n d) (B n d) (p.stands n d z) (q.stands n d z)).1 (h n d z) }

  pub settles_says : Settles c j a b → (n : ℤ) (d : ℕ) → IsDenominator c d → (flip j (A n d) && flip j (B n d)) ≡ false
  settles_says s n d z = (settled_test j (A n d) (B n d) (p.stands n d z) (q.stands n d z)).0 (s.settled n d z)

  module _ (e : Atom) (E : ℤ → ℕ → Bool) (r : IsTest c e E) where
    pub merges_by : SamePart a b → SamePart a e → IsNormal c e → ((n : ℤ) (d : ℕ) → IsDenominator c d → flip j (E n d) ≡ (flip j (A n d) && flip j (B n d))) → MergesInto c j a b e
    merges_by s t m h = record {
      same_part = s;
      keeps_part = t;
      normal = m;
      stands_for = λ n d z.
          let x = r.stands n d z in
          let y = joined_test j (A n d) (B n d) (p.stands n d z) (q.stands n d z) in
          let w : E n d ≡ flip j (flip j (A n d) && flip j (B n d)) = sym (flip_twice j (E n d)) ∙ ap (flip j) (h n d z) in
          (λ k. y.1 (sym w ∙ x.0 k), λ k. x.1 (w ∙ y.0 k));
    }

    pub merges_says : MergesInto c j a b e → (n : ℤ) (d : ℕ) → IsDenominator c d → flip j (E n d) ≡ (flip j (A n d) && flip j (B n d))
    merges_says m n d z =
        let x = r.stands n d z in
        let y = joined_test j (A n d) (B n d) (p.stands n d z) (q.stands n d z) in
        let k = m.stands_for n d z in
        let w : E n d ≡ flip j (flip j (A n d) && flip j (B n d)) = same_tests _ _ (λ h. y.0 (k.0 (x.1 h)), λ h. x.0 (k.1 (y.1 h))) in
        ap (flip j) w ∙ flip_twice j (flip j (A n d) && flip j (B n d))
