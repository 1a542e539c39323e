-- The verdicts are right at each pair of orders that can occur.
use Rattle.std.proofs.Common.{◌≡◌, Bool, true, false, not, ◌&&◌, sym, subst, ◌∙◌, ap, refl}
use Rattle.std.proofs.Math.Bool.{and-true, and-false}
use Rattle.std.specs.declared.cmp.Ordering.{Ordering}
use Rattle.std.specs.declared.cmp.Ordering.TheVariants.{Less, Equal, Greater}
use Rattle.logic_meaning.specs.Atom.{Relation, Equals, Differs, Below, AtMost, Above, AtLeast, opposite_relation}
use Rattle.logic_meaning.specs.NormalForm.{holds, IsIntegerRelation}
use Rattle.normal_atoms.specs.declared.atom_merging_comparison.Position.{Position}
use Rattle.normal_atoms.specs.declared.atom_merging_comparison.Position.TheVariants as lies
use Rattle.normal_atoms.specs.Verdicts.{Verdict, Settled, Kept, First, Second, with_answers, at_one, between, apart, next_to, swapped, both}

-- ---- the orders of a number to the first threshold and to the second

-- the first threshold lies below the second
abbrev pub OccursBelow : Ordering → Ordering → Type 0
OccursBelow Less y = y ≡ Less
OccursBelow Equal y = y ≡ Less
OccursBelow Greater y = Unit {0}

-- and no number lies between
abbrev pub OccursNext : Ordering → Ordering → Type 0
OccursNext Less y = y ≡ Less
OccursNext Equal y = y ≡ Less
OccursNext Greater y = ¬ (y ≡ Less)

abbrev pub Occurs : Position → Ordering → Ordering → Type 0
Occurs lies.Same x y = x ≡ y
Occurs lies.Below x y = OccursBelow x y
Occurs lies.NextBelow x y = OccursNext x y
Occurs lies.Above x y = OccursBelow y x
Occurs lies.NextAbove x y = OccursNext y x

next_is_below : (x y : Ordering) → OccursNext x y → OccursBelow x y
next_is_below Less y h = h
next_is_below Equal y h = h
next_is_below Greater y h = tt

-- ---- what a verdict says at two orders

abbrev pub Means : Verdict → Relation → Relation → Ordering → Ordering → Type 0
Means Settled r s x y = (holds r x && holds s y) ≡ false
Means Kept r s x y = Unit {0}
Means (First q) r s x y = holds q x ≡ (holds r x && holds s y)
Means (Second q) r s x y = holds q y ≡ (holds r x && holds s y)

left_true : {a : Bool} (b : Bool) → a ≡ true → b ≡ (a && b)
left_true b e = sym (ap (λ c. c && b) e)

left_false : {a : Bool} (b : Bool) → a ≡ false → (a && b) ≡ false
left_false b e = ap (λ c. c && b) e

right_true : (a : Bool) {b : Bool} → b ≡ true → a ≡ (a && b)
right_true a e = sym (ap (λ c. a && c) e ∙ and-true a)

right_false : (a : Bool) {b : Bool} → b ≡ false → (a && b) ≡ false
right_false a e = ap (λ c. a && c) e ∙ and-false a

-- both below the first threshold
low_means : (u v : Bool) (r s : Relation) (x y : Ordering) → holds s y ≡ v → Means (between u v r s) r s x y
low_means true true r s x y e = tt
low_means true false r s x y e = e ∙ sym (right_false (holds r x) e)
low_means false true r s x y e = right_true (holds r x) e
low_means false false r s x y e = right_false (holds r x) e

-- above the first threshold
high_means : (u v : Bool) (r s : Relation) (x y : Ordering) → holds r x ≡ u → Means (between u v r s) r s x y
high_means true true r s x y e = tt
high_means true false r s x y e = left_true (holds s y) e
high_means false true r s x y e = e ∙ sym (left_false (holds s y) e)
high_means false false r s x y e = left_false (holds s y) e

apart_means : (r s : Relation) (x y : Ordering) → OccursBelow x y → Means (apart r s) r s x y
apart_means r s Less y h = low_means (holds r Greater) (holds s Less) r s Less y (ap (holds s) h)
apart_means r s Equal y h = low_means (holds r Greater) (holds s Less) r s Equal y (ap (holds s) h)
apart_means r s Greater y h = high_means (holds r Greater) (holds s Less) r s Greater y refl

next_means : (r s : Relation) (x y : Ordering) → OccursNext x y → Means (next_to r s) r s x y
next_means Above AtMost Less y h = ap (holds Equals) h
next_means Above AtMost Equal y h = ap (holds Equals) h
next_means Above AtMost Greater Less h = absurd (h refl)
next_means Above AtMost Greater Equal h = refl
next_means Above AtMost Greater Greater h = refl
next_means Above Differs Less y h = ap (holds Above) h
next_means Above Differs Equal y h = ap (holds Above) h
next_means Above Differs Greater Less h = absurd (h refl)
next_means Above Differs Greater Equal h = refl
next_means Above Differs Greater Greater h = refl
next_means r s x y h = apart_means r s x y (next_is_below x y h)

-- no relation holds at all orders
never_all : (r : Relation) → holds r Less ≡ true → holds r Equal ≡ true → holds r Greater ≡ true → ⊥
never_all Equals l e g = cc
never_all Differs l e g = cc
never_all Below l e g = cc
never_all AtMost l e g = cc
never_all Above l e g = cc
never_all AtLeast l e g = cc

first_true : (a b : Bool) → (a && b) ≡ true → a ≡ true
first_true true b h = refl
first_true false b h = h

-- the verdict on three answers, where each is what both relations say at that order
abbrev pub Answers : Bool → Bool → Bool → Ordering → Bool
Answers l e g Less = l
Answers l e g Equal = e
Answers l e g Greater = g

answers_mean : (l e g : Bool) (r s : Relation) (x : Ordering) → (l ≡ true → e ≡ true → g ≡ true → ⊥) → (holds r x && holds s x) ≡ Answers l e g x → Means (with_answers l e g) r s x x
answers_mean false false false r s Less n h = h
answers_mean false false false r s Equal n h = h
answers_mean false false false r s Greater n h = h
answers_mean false true false r s Less n h = sym h
answers_mean false true false r s Equal n h = sym h
answers_mean false true false r s Greater n h = sym h
answers_mean true false true r s Less n h = sym h
answers_mean true false true r s Equal n h = sym h
answers_mean true false true r s Greater n h = sym h
answers_mean true false false r s Less n h = sym h
answers_mean true false false r s Equal n h = sym h
answers_mean true false false r s Greater n h = sym h
answers_mean true true false r s Less n h = sym h
answers_mean true true false r s Equal n h = sym h
answers_mean true true false r s Greater n h = sym h
answers_mean true true true r s x n h = absurd (n refl refl refl)
answers_mean false false true r s Less n h = sym h
answers_mean false false true r s Equal n h = sym h
answers_mean false false true r s Greater n h = sym h
answers_mean false true true r s Less n h = sym h
answers_mean false true true r s Equal n h = sym h
answers_mean false true true r s Greater n h = sym h

answered : (r s : Relation) (x : Ordering) → (holds r x && holds s x) ≡ Answers (holds r Less && holds s Less) (holds r Equal && holds s Equal) (holds r Greater && holds s Greater) x
answered r s Less = refl
answered r s Equal = refl
answered r s Greater = refl

one_means : (r s : Relation) (x : Ordering) → Means (at_one r s) r s x x
one_means r s x =
    answers_mean (holds r Less && holds s Less) (holds r Equal && holds s Equal) (holds r Greater && holds s Greater) r s x
    (λ l e g. never_all r (first_true (holds r Less) (holds s Less) l) (first_true (holds r Equal) (holds s Equal) e) (first_true (holds r Greater) (holds s Greater) g))
    (answered r s x)

pub and_swap : (a b : Bool) → (a && b) ≡ (b && a)
and_swap true true = refl
and_swap true false = refl
and_swap false true = refl
and_swap false false = refl

swapped_means : (v : Verdict) (r s : Relation) (x y : Ordering) → Means v s r y x → Means (swapped v) r s x y
swapped_means Settled r s x y h = and_swap (holds r x) (holds s y) ∙ h
swapped_means Kept r s x y h = tt
swapped_means (First q) r s x y h = h ∙ and_swap (holds s y) (holds r x)
swapped_means (Second q) r s x y h = h ∙ and_swap (holds s y) (holds r x)

same_means : (r s : Relation) (x y : Ordering) → x ≡ y → Means (at_one r s) r s x y
same_means r s x y e = subst (λ (z : Ordering). Means (at_one r s) r s x z) e (one_means r s x)

-- the verdict on both is right wherever the position allows the orders
pub both_means : (p : Position) (r s : Relation) (x y : Ordering) → Occurs p x y → Means (both p r s) r s x y
both_means lies.Same r s x y h = same_means r s x y h
both_means lies.Below r s x y h = apart_means r s x y h
both_means lies.NextBelow r s x y h = next_means r s x y h
both_means lies.Above r s x y h = swapped_means (apart s r) r s x y (apart_means s r y x h)
both_means lies.NextAbove r s x y h = swapped_means (next_to s r) r s x y (next_means s r y x h)

-- ---- where both stay

-- a pair stays only where both hold between the thresholds
pub between_kept : (u v : Bool) (r s : Relation) → between u v r s ≡ Kept → (u ≡ true) × (v ≡ true)
between_kept true true r s e = (refl, refl)
between_kept true false r s e = absurd (cc)
between_kept false true r s e = absurd (cc)
between_kept false false r s e = absurd (cc)

pub one_kept : (l e g : Bool) → with_answers l e g ≡ Kept → ⊥
one_kept false false false h = cc
one_kept false true false h = cc
one_kept true false true h = cc
one_kept true false false h = cc
one_kept true true g h = cc
one_kept false false true h = cc
one_kept false true true h = cc

pub swapped_kept : (v : Verdict) → swapped v ≡ Kept → v ≡ Kept
swapped_kept Settled e = absurd (cc)
swapped_kept Kept e = refl
swapped_kept (First q) e = absurd (cc)
swapped_kept (Second q) e = absurd (cc)

-- over the integers and at neighbours: the first relation is <>, and the second holds below its threshold
pub next_kept : (r s : Relation) → IsIntegerRelation r → IsIntegerRelation s → next_to r s ≡ Kept → (r ≡ Differs) × (holds s Less ≡ true)
next_kept Differs s i k e = (refl, (between_kept true (holds s Less) Differs s e).1)
next_kept Equals s i k e = absurd (let h = (between_kept false (holds s Less) Equals s e).0 in cc)
next_kept AtMost s i k e = absurd (let h = (between_kept false (holds s Less) AtMost s e).0 in cc)
next_kept Below s i k e = absurd i
next_kept AtLeast s i k e = absurd i
next_kept Above Equals i k e = absurd (cc)
next_kept Above Differs i k e = absurd (cc)
next_kept Above AtMost i k e = absurd (cc)
next_kept Above Above i k e = absurd (cc)
next_kept Above Below i k e = absurd k
next_kept Above AtLeast i k e = absurd k

-- ---- the opposite relation

pub opposite_holds : (r : Relation) (o : Ordering) → holds (opposite_relation r) o ≡ not (holds r o)
opposite_holds Equals Less = refl
opposite_holds Equals Equal = refl
opposite_holds Equals Greater = refl
opposite_holds Differs Less = refl
opposite_holds Differs Equal = refl
opposite_holds Differs Greater = refl
opposite_holds Below Less = refl
opposite_holds Below Equal = refl
opposite_holds Below Greater = refl
opposite_holds AtMost Less = refl
opposite_holds AtMost Equal = refl
opposite_holds AtMost Greater = refl
opposite_holds Above Less = refl
opposite_holds Above Equal = refl
opposite_holds Above Greater = refl
opposite_holds AtLeast Less = refl
opposite_holds AtLeast Equal = refl
opposite_holds AtLeast Greater = refl
