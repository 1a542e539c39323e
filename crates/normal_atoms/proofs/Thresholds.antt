-- What the verdict on two comparisons says over all numbers of the theory, by how their thresholds lie.
use Rattle.std.proofs.Common.{◌≡◌, ◌<◌, ℕ, true, false, ◌&&◌, sym, subst, ◌∙◌, ap, refl, arith}
use Rattle.std.proofs.Math.IntN.{ℤ, pos, negsuc, ◌+ℤ◌, ◌-ℤ◌, ◌*ℤ◌}
use Rattle.std.specs.Prelude.{◌<ℤ◌, ◌≤ℤ◌, unsigned_abs}
use Rattle.std.specs.declared.cmp.Ordering.{Ordering}
use Rattle.std.specs.declared.cmp.Ordering.TheVariants.{Less, Equal, Greater}
use Rattle.std.specs.Ordering.{int_cmp}
use Rattle.std.proofs.lemmas.Int.{ints}
use Rattle.exact_numbers.proofs.Ring.{ring, mul_zero, one_mul, mul_one}
use Rattle.exact_numbers.proofs.Order.{by_compare, mul_less, mul_positive, compare_mul, compare_less}
use Rattle.logic_meaning.specs.Context.{Context, Fields, Integers, IsDenominator}
use Rattle.logic_meaning.specs.Atom.{Relation, Differs}
use Rattle.logic_meaning.specs.NormalForm.{holds, IsIntegerRelation}
use Rattle.normal_atoms.specs.declared.atom_merging_comparison.Position.{Position}
use Rattle.normal_atoms.specs.declared.atom_merging_comparison.Position.TheVariants as lies
use Rattle.normal_atoms.specs.Positions.{IsBelow, IsPosition, IsContentIn}
use Rattle.normal_atoms.specs.Verdicts.{Verdict, Settled, Kept, First, Second, apart, next_to, both}
use Rattle.normal_atoms.proofs.Tables.{OccursBelow, OccursNext, Occurs, Means, both_means, between_kept, one_kept, swapped_kept, next_kept, and_swap}
use Rattle.normal_atoms.proofs.Mixed.{IsMixed, mixed_along, HasLower, HasUpper, lower_in_fields, upper_in_fields, upper_over_integers, lower_of_differs, room_is_mixed, inside, inside_holds}

-- the order of g * n + a * d to 0
abbrev pub order_at : ℤ → ℤ → ℤ → ℕ → Ordering
order_at g a n d = int_cmp (g *ℤ n +ℤ a *ℤ pos d) (pos 0)

pub content_positive_in : (c : Context) (g : ℤ) → IsContentIn c g → pos 0 <ℤ g
content_positive_in Fields g h = h
content_positive_in Integers g h = omega (arith, ints)

sign_mul : (k u : ℤ) → pos 0 <ℤ k → int_cmp (k *ℤ u) (pos 0) ≡ int_cmp u (pos 0)
sign_mul k u p = ap (int_cmp (k *ℤ u)) (sym (mul_zero k)) ∙ compare_mul k u (pos 0) p

-- over the integers the order is that of n + a
pub unit_order : (g a n : ℤ) (d : ℕ) → g ≡ pos 1 → d ≡ 1 → order_at g a n d ≡ int_cmp (n +ℤ a) (pos 0)
unit_order g a n d e f =
    let x : g *ℤ n ≡ n = ap (λ z. z *ℤ n) e ∙ one_mul n in
    let y : a *ℤ pos d ≡ a = ap (λ z. a *ℤ pos z) f ∙ mul_one a in
    λ i. int_cmp (x i +ℤ y i) (pos 0)

-- ---- the orders that occur

below_occurs : (u v : ℤ) → v <ℤ u → OccursBelow (int_cmp u (pos 0)) (int_cmp v (pos 0))
below_occurs u v l =
    let P : Ordering → Type 0 = λ o. OccursBelow o (int_cmp v (pos 0)) in
    by_compare u (pos 0)
    (λ (h : u <ℤ pos 0) e. let k : v <ℤ pos 0 = omega (arith, ints) in subst P (sym e) (compare_less k))
    (λ (h : u ≡ pos 0) e. let k : v <ℤ pos 0 = omega (arith, ints) in subst P (sym e) (compare_less k))
    (λ h e. subst P (sym e) tt)

not_less : (o : Ordering) {p : Ordering} → o ≡ p → ¬ (p ≡ Less) → ¬ (o ≡ Less)
not_less o e n h = n (sym e ∙ h)

next_occurs : (u v : ℤ) → u ≡ v +ℤ pos 1 → OccursNext (int_cmp u (pos 0)) (int_cmp v (pos 0))
next_occurs u v l =
    let P : Ordering → Type 0 = λ o. OccursNext o (int_cmp v (pos 0)) in
    by_compare u (pos 0)
    (λ (h : u <ℤ pos 0) e. let k : v <ℤ pos 0 = omega (arith, ints) in subst P (sym e) (compare_less k))
    (λ (h : u ≡ pos 0) e. let k : v <ℤ pos 0 = omega (arith, ints) in subst P (sym e) (compare_less k))
    (λ (h : pos 0 <ℤ u) e. subst P (sym e) (by_compare v (pos 0)
    (λ (k : v <ℤ pos 0) f. absurd (omega (arith, ints)))
    (λ k f. not_less (int_cmp v (pos 0)) f (λ q. cc))
    (λ k f. not_less (int_cmp v (pos 0)) f (λ q. cc))))

cross_less : (g a h b n d : ℤ) → pos 0 <ℤ d → (b *ℤ g) <ℤ (a *ℤ h) → (g *ℤ (h *ℤ n +ℤ b *ℤ d)) <ℤ (h *ℤ (g *ℤ n +ℤ a *ℤ d))
cross_less g a h b n d p l =
    let m = simp ring at (mul_less d p l) in
    simp ring (omega (arith, ints, m))

cross_same : (g a h b n d : ℤ) → a *ℤ h ≡ b *ℤ g → h *ℤ (g *ℤ n +ℤ a *ℤ d) ≡ g *ℤ (h *ℤ n +ℤ b *ℤ d)
cross_same g a h b n d e =
    let m = simp ring at (ap (λ z. d *ℤ z) e) in
    simp ring (omega (arith, ints, m))

below_at : (c : Context) (g a h b n : ℤ) (d : ℕ) → IsContentIn c g → IsContentIn c h → IsDenominator c d → IsBelow c g a h b → OccursBelow (order_at g a n d) (order_at h b n d)
below_at Fields g a h b n d p q z l =
    let w : pos 0 <ℤ pos d = omega (arith, ints) in
    let m = below_occurs (h *ℤ (g *ℤ n +ℤ a *ℤ pos d)) (g *ℤ (h *ℤ n +ℤ b *ℤ pos d)) (cross_less g a h b n (pos d) w l) in
    let k = subst (λ o. OccursBelow o (int_cmp (g *ℤ (h *ℤ n +ℤ b *ℤ pos d)) (pos 0))) (sign_mul h (g *ℤ n +ℤ a *ℤ pos d) q) m in
    subst (λ o. OccursBelow (order_at g a n d) o) (sign_mul g (h *ℤ n +ℤ b *ℤ pos d) p) k
below_at Integers g a h b n d p q z l =
    let m : (n +ℤ b) <ℤ (n +ℤ a) = omega (arith, ints) in
    let k = subst (λ o. OccursBelow o (int_cmp (n +ℤ b) (pos 0))) (sym (unit_order g a n d p z)) (below_occurs (n +ℤ a) (n +ℤ b) m) in
    subst (λ o. OccursBelow (order_at g a n d) o) (sym (unit_order h b n d q z)) k

next_at : (g a h b n : ℤ) (d : ℕ) → g ≡ pos 1 → h ≡ pos 1 → d ≡ 1 → a ≡ b +ℤ pos 1 → OccursNext (order_at g a n d) (order_at h b n d)
next_at g a h b n d p q z l =
    let m : n +ℤ a ≡ (n +ℤ b) +ℤ pos 1 = omega (arith, ints) in
    let k = subst (λ o. OccursNext o (int_cmp (n +ℤ b) (pos 0))) (sym (unit_order g a n d p z)) (next_occurs (n +ℤ a) (n +ℤ b) m) in
    subst (λ o. OccursNext (order_at g a n d) o) (sym (unit_order h b n d q z)) k

same_at : (g a h b n : ℤ) (d : ℕ) → pos 0 <ℤ g → pos 0 <ℤ h → a *ℤ h ≡ b *ℤ g → order_at g a n d ≡ order_at h b n d
same_at g a h b n d p q e =
    sym (sign_mul h (g *ℤ n +ℤ a *ℤ pos d) q)
    ∙ ap (λ z. int_cmp z (pos 0)) (cross_same g a h b n (pos d) e)
    ∙ sign_mul g (h *ℤ n +ℤ b *ℤ pos d) p

position_occurs : (c : Context) (g a h b n : ℤ) (d : ℕ) (p : Position) → IsContentIn c g → IsContentIn c h → IsDenominator c d → IsPosition c g a h b p → Occurs p (order_at g a n d) (order_at h b n d)
position_occurs c g a h b n d lies.Same x y z l = same_at g a h b n d (content_positive_in c g x) (content_positive_in c h y) l
position_occurs c g a h b n d lies.Below x y z l = below_at c g a h b n d x y z l
position_occurs Integers g a h b n d lies.NextBelow x y z l = next_at g a h b n d x y z l
position_occurs Fields g a h b n d lies.NextBelow x y z l = absurd l
position_occurs c g a h b n d lies.Above x y z l = below_at c h b g a n d y x z l
position_occurs Integers g a h b n d lies.NextAbove x y z l = next_at h b g a n d y x z l
position_occurs Fields g a h b n d lies.NextAbove x y z l = absurd l

-- ---- where both stay

-- the relation is one of normal atoms of the theory
abbrev pub IsRelationIn : Context → Relation → Type 0
IsRelationIn Fields r = Unit {0}
IsRelationIn Integers r = IsIntegerRelation r

-- over some denominator the numbers that meet both are no comparison's
pub record Stays (c : Context) (r : Relation) (g a : ℤ) (s : Relation) (h b : ℤ) : Type 0 where
  pub below : ℕ
  pub allowed : IsDenominator c below
  pub mixed : IsMixed (λ n. holds r (order_at g a n below) && holds s (order_at h b n below))

stays_swapped : (c : Context) (r : Relation) (g a : ℤ) (s : Relation) (h b : ℤ) → Stays c s h b r g a → Stays c r g a s h b
stays_swapped c r g a s h b m = record {
  below = m.below;
  allowed = m.allowed;
  mixed = mixed_along _ _ (λ n. and_swap (holds s (order_at h b n m.below)) (holds r (order_at g a n m.below))) m.mixed;
}

-- over the denominator 3 * g * h the order is that of n + 3 * a * h
spread_order : (g a h n : ℤ) (d : ℕ) → pos 0 <ℤ g → pos d ≡ pos 3 *ℤ (g *ℤ h) → order_at g a n d ≡ int_cmp (n +ℤ pos 3 *ℤ (a *ℤ h)) (pos 0)
spread_order g a h n d p e =
    let x : g *ℤ n +ℤ a *ℤ (pos 3 *ℤ (g *ℤ h)) ≡ g *ℤ (n +ℤ pos 3 *ℤ (a *ℤ h)) = simp ring (omega (arith, ints)) in
    ap (λ z. int_cmp (g *ℤ n +ℤ a *ℤ z) (pos 0)) e ∙ ap (λ z. int_cmp z (pos 0)) x ∙ sign_mul g (n +ℤ pos 3 *ℤ (a *ℤ h)) p

fields_stay_apart : (r : Relation) (g a : ℤ) (s : Relation) (h b : ℤ) → pos 0 <ℤ g → pos 0 <ℤ h → (b *ℤ g) <ℤ (a *ℤ h) → holds r Greater ≡ true → holds s Less ≡ true → Stays Fields r g a s h b
fields_stay_apart r g a s h b p q l u v =
    let m = mul_positive p q in
    let w : pos 0 <ℤ (pos 3 *ℤ (g *ℤ h)) = omega (arith, ints) in
    let d : ℕ = unsigned_abs (pos 3 *ℤ (g *ℤ h)) in
    let e : pos d ≡ pos 3 *ℤ (g *ℤ h) = omega (arith, ints) in
    let f : pos d ≡ pos 3 *ℤ (h *ℤ g) = simp ring (omega (arith, ints, simp ring at e)) in
    let z : 0 < d = omega (arith, ints) in
    let room : (pos 1 -ℤ pos 3 *ℤ (a *ℤ h)) <ℤ (negsuc 0 -ℤ pos 3 *ℤ (b *ℤ g)) = omega (arith, ints) in
    let i : pos 0 ≤ℤ pos 1 = omega (arith, ints) in
    let j : negsuc 0 ≤ℤ pos 0 = omega (arith, ints) in
    record {
      below = d;
      allowed = z;
      mixed = mixed_along _ _ (λ n. let x = spread_order g a h n d p e in let y = spread_order h b g n d q f in λ k. holds r (sym x k) && holds s (sym y k))
          (room_is_mixed r s (pos 1) (negsuc 0) (pos 3 *ℤ (a *ℤ h)) (pos 3 *ℤ (b *ℤ g)) (lower_in_fields r u) (upper_in_fields s v) i j room u v);
    }

integers_stay : (r : Relation) (g a : ℤ) (s : Relation) (h b e : ℤ) → g ≡ pos 1 → h ≡ pos 1 → HasLower r e → HasUpper s (pos 0) → pos 0 ≤ℤ e → (e -ℤ a) <ℤ (pos 0 -ℤ b) → holds r Greater ≡ true → holds s Less ≡ true → Stays Integers r g a s h b
integers_stay r g a s h b e p q l m i room u v =
    let j : pos 0 ≤ℤ pos 0 = omega (arith, ints) in
    record {
      below = 1;
      allowed = refl;
      mixed = mixed_along _ _ (λ n. let x = unit_order g a n 1 p refl in let y = unit_order h b n 1 q refl in λ k. holds r (sym x k) && holds s (sym y k))
          (room_is_mixed r s e (pos 0) a b l m i j room u v);
    }

apart_stays : (c : Context) (r : Relation) (g a : ℤ) (s : Relation) (h b : ℤ) → IsContentIn c g → IsContentIn c h → IsRelationIn c s → IsBelow c g a h b → apart r s ≡ Kept → Stays c r g a s h b
apart_stays Fields r g a s h b x y i l e =
    let k = between_kept (holds r Greater) (holds s Less) r s e in
    fields_stay_apart r g a s h b x y l k.0 k.1
apart_stays Integers r g a s h b x y i l e =
    let k = between_kept (holds r Greater) (holds s Less) r s e in
    let z : pos 0 ≤ℤ pos 1 = omega (arith, ints) in
    let room : (pos 1 -ℤ a) <ℤ (pos 0 -ℤ b) = omega (arith, ints) in
    integers_stay r g a s h b (pos 1) x y (lower_in_fields r k.0) (upper_over_integers s i k.1) z room k.0 k.1

next_stays : (r : Relation) (g a : ℤ) (s : Relation) (h b : ℤ) → g ≡ pos 1 → h ≡ pos 1 → IsIntegerRelation r → IsIntegerRelation s → a ≡ b +ℤ pos 1 → next_to r s ≡ Kept → Stays Integers r g a s h b
next_stays r g a s h b x y i j l e =
    let k = next_kept r s i j e in
    let z : pos 0 ≤ℤ pos 0 = omega (arith, ints) in
    let room : (pos 0 -ℤ a) <ℤ (pos 0 -ℤ b) = omega (arith, ints) in
    subst (λ (q : Relation). Stays Integers q g a s h b) (sym k.0)
    (integers_stay Differs g a s h b (pos 0) x y lower_of_differs (upper_over_integers s j k.1) z room refl k.1)

pub kept_stays : (c : Context) (r : Relation) (g a : ℤ) (s : Relation) (h b : ℤ) (p : Position) → IsContentIn c g → IsContentIn c h → IsRelationIn c r → IsRelationIn c s → IsPosition c g a h b p → both p r s ≡ Kept → Stays c r g a s h b
kept_stays c r g a s h b lies.Same x y i j l e = absurd (one_kept (holds r Less && holds s Less) (holds r Equal && holds s Equal) (holds r Greater && holds s Greater) e)
kept_stays c r g a s h b lies.Below x y i j l e = apart_stays c r g a s h b x y j l e
kept_stays Integers r g a s h b lies.NextBelow x y i j l e = next_stays r g a s h b x y i j l e
kept_stays Fields r g a s h b lies.NextBelow x y i j l e = absurd l
kept_stays c r g a s h b lies.Above x y i j l e = stays_swapped c r g a s h b (apart_stays c s h b r g a y x i l (swapped_kept (apart s r) e))
kept_stays Integers r g a s h b lies.NextAbove x y i j l e = stays_swapped Integers r g a s h b (next_stays s h b r g a y x j i l (swapped_kept (next_to s r) e))
kept_stays Fields r g a s h b lies.NextAbove x y i j l e = absurd l

-- ---- what a verdict says

-- some number of the theory meets the comparison
pub record Reaches (c : Context) (q : Relation) (g a : ℤ) : Type 0 where
  pub at : ℤ
  pub below : ℕ
  pub allowed : IsDenominator c below
  pub reached : holds q (order_at g a at below) ≡ true

pub reaches : (c : Context) (q : Relation) (g a : ℤ) → IsContentIn c g → Reaches c q g a
reaches Fields q g a p =
    let d : ℕ = unsigned_abs g in
    let e : pos d ≡ g = omega (arith, ints) in
    let z : 0 < d = omega (arith, ints) in
    let x : g *ℤ (inside q -ℤ a) +ℤ a *ℤ g ≡ g *ℤ inside q = simp ring (omega (arith, ints)) in
    record {
      at = inside q -ℤ a;
      below = d;
      allowed = z;
      reached = ap (λ k. holds q (int_cmp (g *ℤ (inside q -ℤ a) +ℤ a *ℤ k) (pos 0))) e ∙ ap (λ k. holds q (int_cmp k (pos 0))) x ∙ ap (holds q) (sign_mul g (inside q) p) ∙ inside_holds q;
    }
reaches Integers q g a p =
    let x : (inside q -ℤ a) +ℤ a ≡ inside q = omega (arith, ints) in
    record {
      at = inside q -ℤ a;
      below = 1;
      allowed = refl;
      reached = ap (holds q) (unit_order g a (inside q -ℤ a) 1 p refl) ∙ ap (λ k. holds q (int_cmp k (pos 0))) x ∙ inside_holds q;
    }

-- what a verdict says of the numbers that meet both comparisons
abbrev pub OnBoth : Context → Relation → ℤ → ℤ → Relation → ℤ → ℤ → Verdict → Type 0
OnBoth c r g a s h b Settled = (n : ℤ) (d : ℕ) → IsDenominator c d → (holds r (order_at g a n d) && holds s (order_at h b n d)) ≡ false
OnBoth c r g a s h b (First q) = ((n : ℤ) (d : ℕ) → IsDenominator c d → holds q (order_at g a n d) ≡ (holds r (order_at g a n d) && holds s (order_at h b n d))) × Reaches c q g a
OnBoth c r g a s h b (Second q) = ((n : ℤ) (d : ℕ) → IsDenominator c d → holds q (order_at h b n d) ≡ (holds r (order_at g a n d) && holds s (order_at h b n d))) × Reaches c q h b
OnBoth c r g a s h b Kept = Stays c r g a s h b

from_means : (c : Context) (r : Relation) (g a : ℤ) (s : Relation) (h b : ℤ) (v : Verdict) → IsContentIn c g → IsContentIn c h → ((n : ℤ) (d : ℕ) → IsDenominator c d → Means v r s (order_at g a n d) (order_at h b n d)) → (v ≡ Kept → Stays c r g a s h b) → OnBoth c r g a s h b v
from_means c r g a s h b Settled x y m k = m
from_means c r g a s h b (First q) x y m k = (m, reaches c q g a x)
from_means c r g a s h b (Second q) x y m k = (m, reaches c q h b y)
from_means c r g a s h b Kept x y m k = k refl

pub judged : (c : Context) (r : Relation) (g a : ℤ) (s : Relation) (h b : ℤ) (p : Position) → IsContentIn c g → IsContentIn c h → IsRelationIn c r → IsRelationIn c s → IsPosition c g a h b p → OnBoth c r g a s h b (both p r s)
judged c r g a s h b p x y i j l =
    from_means c r g a s h b (both p r s) x y
    (λ n d z. both_means p r s (order_at g a n d) (order_at h b n d) (position_occurs c g a h b n d p x y z l))
    (kept_stays c r g a s h b p x y i j l)
