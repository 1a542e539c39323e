-- Relations and their tests, and the sign of the first coefficient.
use Rattle.std.proofs.Common.{◌≡◌, ℕ, Bool, true, false, List, [], ◌∷◌, sym, subst, refl, arith, ◌↔◌}
use Rattle.std.proofs.Math.IntN.{ℤ, pos, negsuc, neg_ℤ, ◌*ℤ◌}
use Rattle.std.specs.Prelude.{◌<ℤ◌, ◌≤ℤ◌}
use Rattle.std.specs.declared.cmp.Ordering.{Ordering}
use Rattle.std.specs.declared.cmp.Ordering.TheVariants.{Less, Equal, Greater}
use Rattle.std.specs.Ordering.{int_cmp}
use Rattle.std.proofs.lemmas.Int.{ints}
use Rattle.exact_numbers.specs.Divides.{Divides, content_of}
use Rattle.exact_numbers.specs.Division.{DividesAll}
use Rattle.exact_numbers.proofs.Ring.{neg_mul}
use Rattle.exact_numbers.proofs.Order.{by_compare, by_order, factor_positive}
use Rattle.exact_numbers.proofs.Divisibility.{divides_same, divides_neg, neg_divides, zero_divides}
use Rattle.exact_numbers.proofs.Contents.{content_is}
use Rattle.logic_meaning.specs.Context.{Context}
use Rattle.logic_meaning.specs.Point.{Point}
use Rattle.logic_meaning.specs.Atom.{Relation, Equals, Differs, Below, AtMost, Above, AtLeast, Relates, mirrored}
use Rattle.logic_meaning.specs.Tree.{TrueAt}
use Rattle.linear_forms.proofs.FromFormulaLaws.{relates_zero_mul, relates_neg}
use Rattle.logic_meaning.specs.NormalForm.{constant_tree, holds, turned, facing}

-- ---- equivalences

pub chain : {A B C : Type 0} → A ↔ B → B ↔ C → A ↔ C
chain f g = (λ a. g.0 (f.0 a), λ c. f.1 (g.1 c))

pub back : {A B : Type 0} → A ↔ B → B ↔ A
back f = (f.1, f.0)

-- the opposites of equivalent facts
pub never : {A B : Type 0} → A ↔ B → (¬ A) ↔ (¬ B)
never f = (λ n b. n (f.1 b), λ n a. n (f.0 a))

pub along : {X : Type 0} (P : X → Type 0) {a b : X} → a ≡ b → P a ↔ P b
along P e = (subst P e, subst P (sym e))

-- ---- tests

pub constant_truth : (b : Bool) (c : Context) (p : Point ℕ) → (b ≡ true) ↔ TrueAt c (constant_tree b) p
constant_truth true c p = (λ e. tt, λ h. refl)
constant_truth false c p = (λ e. absurd (cc), λ h. absurd h)

module _ (a b : ℤ) where
  when_less : (r : Relation) → a <ℤ b → Relates r a b ↔ (holds r Less ≡ true)
  when_less Equals h = (λ (e : a ≡ b). absurd (omega (arith, ints)), λ k. absurd (cc))
  when_less Differs h = (λ e. refl, λ k (e : a ≡ b). omega (arith, ints))
  when_less Below h = (λ e. refl, λ k. h)
  when_less AtMost h = (λ e. refl, λ k. omega (arith, ints))
  when_less Above h = (λ (e : b <ℤ a). absurd (omega (arith, ints)), λ k. absurd (cc))
  when_less AtLeast h = (λ (e : b ≤ℤ a). absurd (omega (arith, ints)), λ k. absurd (cc))

  when_same : (r : Relation) → a ≡ b → Relates r a b ↔ (holds r Equal ≡ true)
  when_same Equals h = (λ e. refl, λ k. h)
  when_same Differs h = (λ n. absurd (n h), λ k. absurd (cc))
  when_same Below h = (λ (e : a <ℤ b). absurd (omega (arith, ints)), λ k. absurd (cc))
  when_same AtMost h = (λ e. refl, λ k. omega (arith, ints))
  when_same Above h = (λ (e : b <ℤ a). absurd (omega (arith, ints)), λ k. absurd (cc))
  when_same AtLeast h = (λ e. refl, λ k. omega (arith, ints))

  when_more : (r : Relation) → b <ℤ a → Relates r a b ↔ (holds r Greater ≡ true)
  when_more Equals h = (λ (e : a ≡ b). absurd (omega (arith, ints)), λ k. absurd (cc))
  when_more Differs h = (λ e. refl, λ k (e : a ≡ b). omega (arith, ints))
  when_more Below h = (λ (e : a <ℤ b). absurd (omega (arith, ints)), λ k. absurd (cc))
  when_more AtMost h = (λ (e : a ≤ℤ b). absurd (omega (arith, ints)), λ k. absurd (cc))
  when_more Above h = (λ e. refl, λ k. h)
  when_more AtLeast h = (λ e. refl, λ k. omega (arith, ints))

-- the test of a relation
pub holds_so : (r : Relation) (a b : ℤ) → Relates r a b ↔ (holds r (int_cmp a b) ≡ true)
holds_so r a b =
    let P : Ordering → Type 0 = λ o. Relates r a b ↔ (holds r o ≡ true) in
    by_compare a b (λ h e. subst P (sym e) (when_less a b r h)) (λ h e. subst P (sym e) (when_same a b r h)) (λ h e. subst P (sym e) (when_more a b r h))

-- ---- the sign of the first coefficient

pub turned_relates : (s g v : ℤ) (r : Relation) → pos 0 <ℤ g → Relates r (turned s g *ℤ v) (pos 0) ↔ Relates (facing s r) v (pos 0)
turned_relates (pos n) g v r h = back (relates_zero_mul r g v h)
turned_relates (negsuc n) g v r h =
    chain (along (λ (z : ℤ). Relates r z (pos 0)) (neg_mul g v)) (chain (relates_neg r (g *ℤ v)) (back (relates_zero_mul (mirrored r) g v h)))

pub turned_nonzero : (s g : ℤ) → pos 0 <ℤ g → ¬ (turned s g ≡ pos 0)
turned_nonzero (pos n) g h = λ (e : g ≡ pos 0). omega (arith, ints)
turned_nonzero (negsuc n) g h = λ (e : neg_ℤ g ≡ pos 0). omega (arith, ints)

neg_divides_all : (g : ℤ) (xs : List ℤ) → DividesAll g xs → DividesAll (neg_ℤ g) xs
neg_divides_all g [] h = tt
neg_divides_all g (x ∷ xs) h = (neg_divides h.0, neg_divides_all g xs h.1)

pub turned_divides_all : (s g : ℤ) (xs : List ℤ) → DividesAll g xs → DividesAll (turned s g) xs
turned_divides_all (pos n) g xs h = h
turned_divides_all (negsuc n) g xs h = neg_divides_all g xs h

pub divides_turned : (s g : ℤ) → Divides g (turned s g)
divides_turned (pos n) g = divides_same g
divides_turned (negsuc n) g = divides_neg (divides_same g)

-- a quotient by a number of its own sign is positive
pub turned_positive : (s g q : ℤ) → pos 0 <ℤ g → ¬ (s ≡ pos 0) → turned s g *ℤ q ≡ s → pos 0 <ℤ q
turned_positive (pos n) g q h z e = let p : pos 0 <ℤ (g *ℤ q) = omega (arith, ints) in factor_positive h p
turned_positive (negsuc n) g q h z e = let m = neg_mul g q in let p : pos 0 <ℤ (g *ℤ q) = omega (arith, ints) in factor_positive h p

-- a common divisor is positive where a number is not 0
pub content_positive : (xs : List ℤ) (x : ℤ) → Divides (content_of xs) x → ¬ (x ≡ pos 0) → pos 0 <ℤ content_of xs
content_positive xs x h n =
    let c = (content_is xs).not_negative in
    by_order (pos 0) (content_of xs) (λ l. l)
    (λ (e : pos 0 ≡ content_of xs). absurd (n (zero_divides (subst (λ (z : ℤ). Divides z x) (sym e) h))))
    (λ (l : content_of xs <ℤ pos 0). absurd (omega (arith, ints)))
