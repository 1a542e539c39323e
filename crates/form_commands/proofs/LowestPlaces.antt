-- Places in lowest terms: a name that is put there has the value that it had.
use Rattle.std.proofs.Common.{◌≡◌, ◌↔◌, ℕ, ◌*◌, ◌<◌, ◌/◌, List, [], ◌∷◌, map, ap, ap₂, sym, ◌∙◌, subst, refl, arith, nat_eq}
use Rattle.std.proofs.Math.IntN.{ℤ, pos, ◌+ℤ◌, ◌-ℤ◌, ◌*ℤ◌, neg_ℤ}
use Rattle.std.proofs.lemmas.Int.{ints}
use Rattle.exact_numbers.proofs.Ring.{mul_comm, mul_assoc, mul_left_comm, mul_add, mul_sub, mul_zero}
use Rattle.exact_numbers.proofs.Order.{cancel_positive}
use Rattle.logic_meaning.specs.Context.{Context, Fields, Integers}
use Rattle.logic_meaning.specs.Point.{Point, move}
use Rattle.logic_meaning.specs.Some.{EachOf}
use Rattle.logic_meaning.specs.Form.{Form, value, coefficient}
use Rattle.logic_meaning.specs.Answer.{Answer, Place, Exact, AboveBy, BelowBy, PlusInfinity, MinusInfinity, Periodic, PlaceMentions, Small, Large, Meets, MeetsAll, Holds}
use Rattle.logic_meaning.specs.Tree.{Tree, TrueAt}
use Rattle.logic_meaning.specs.BothTheories.{IsPlaceIn}
use Rattle.logic_meaning.specs.FieldsPoints.{divisor_of, form_over}
use Rattle.logic_meaning.specs.FieldsSubstitution.{IsFieldPlace}
use Rattle.logic_meaning.specs.IntegerPlace.{IsIntegerPlace}
use Rattle.formula_laws.specs.Points.{finer}
use Rattle.formula_laws.proofs.Iff.{both_ways}
use Rattle.formula_laws.proofs.SamePoint.{finer_move, move_finer}
use Rattle.formula_laws.proofs.TreeFiner.{tree_finer}
use Rattle.formula_laws.proofs.Values.{value_finer, pos_mul}
use Rattle.elimination_theory.specs.LowestPoints.{IsInLowestTerms}
use Rattle.elimination_theory.proofs.FieldsMeet.{positive_pos}
use Rattle.elimination_theory.proofs.FieldsNear.{small_map, large_map}
use Rattle.elimination_theory.proofs.LowestTerms.{lowest}
use Rattle.elimination_theory.proofs.Meets.{meets_map}
use Rattle.form_commands.specs.Lowest.{lowest_place, lowest_answer}
use Rattle.form_commands.proofs.LowestTerms.{divided_lowest}

-- ---- numbers n times as large

sum_times : (n v w s y z : ℤ) → v ≡ n *ℤ w → y ≡ n *ℤ z → v *ℤ s +ℤ y ≡ n *ℤ (w *ℤ s +ℤ z)
sum_times n v w s y z e f = ap₂ (λ a b. a *ℤ s +ℤ b) e f ∙ ap (λ a. a +ℤ n *ℤ z) (mul_assoc n w s) ∙ sym (mul_add n (w *ℤ s) z)

difference_times : (n v w s y z : ℤ) → v ≡ n *ℤ w → y ≡ n *ℤ z → v *ℤ s -ℤ y ≡ n *ℤ (w *ℤ s -ℤ z)
difference_times n v w s y z e f = ap₂ (λ a b. a *ℤ s -ℤ b) e f ∙ ap (λ a. a -ℤ n *ℤ z) (mul_assoc n w s) ∙ sym (mul_sub n (w *ℤ s) z)

multiple_times : (n b c : ℕ) (a : ℤ) → b ≡ c * n → a *ℤ pos b ≡ pos n *ℤ (a *ℤ pos c)
multiple_times n b c a e = ap (λ z. a *ℤ z) (ap pos e ∙ pos_mul c n ∙ mul_comm (pos c) (pos n)) ∙ mul_left_comm a (pos n) (pos c)

-- the distance from a form, where one of its factors is n times as large
distance_times : (n t c d : ℕ) → d ≡ n * c → pos (t * d) ≡ pos n *ℤ pos (t * c)
distance_times n t c d e = ap (λ m. pos (t * m)) e ∙ ap pos (regroup n t c) ∙ pos_mul n (t * c)
  where
    regroup : (n t c : ℕ) → t * (n * c) ≡ n * (t * c)
    regroup n t c = grind arith

small_iff : {Q R : ℕ → ℕ → Type 0} → ((t s : ℕ) → Q t s ↔ R t s) → Small Q ↔ Small R
small_iff {Q} {R} f = (small_map Q R (λ t s i. (f t s).0), small_map R Q (λ t s i. (f t s).1))

large_iff : {Q R : ℤ → ℕ → Type 0} → ((t : ℤ) (s : ℕ) → Q t s ↔ R t s) → Large Q ↔ Large R
large_iff {Q} {R} f = (large_map Q R (λ t s i. (f t s).0), large_map R Q (λ t s i. (f t s).1))

-- ---- over the fields

-- what holds of a point holds of it over any denominator
abbrev IsOfPoint : (Point ℕ → Type 0) → Type 0
IsOfPoint R = (p : Point ℕ) (n : ℕ) → 0 < n → R p ↔ R (finer p n)

below_finer : (p : Point ℕ) (n : ℕ) → (finer p n).below ≡ p.below * n
unfolding finer
below_finer p n = refl

module _ (R : Point ℕ → Type 0) (of : IsOfPoint R) (x : ℕ) (p : Point ℕ) (n : ℕ) (positive : 0 < n) where
  moved_finer : (k l : ℤ) (m : ℕ) → l ≡ pos n *ℤ k → R (move nat_eq p x k m) ↔ R (move nat_eq (finer p n) x l m)
  moved_finer k l m e = subst (λ q. R (move nat_eq p x k m) ↔ R q) (finer_move nat_eq p x k m n ∙ ap (λ z. move nat_eq (finer p n) x z m) (sym e)) (of (move nat_eq p x k m) n positive)

  moved_times : (k l : ℤ) (m j : ℕ) → l ≡ pos n *ℤ k → j ≡ n * m → R (move nat_eq p x k m) ↔ R (move nat_eq p x l j)
  moved_times k l m j e f = subst (λ q. R (move nat_eq p x k m) ↔ R q) (move_finer nat_eq p x l m n ∙ ap (λ i. move nat_eq p x l i) (sym f)) (moved_finer k l m e)

  distance_finer : (t d : ℕ) → pos (t * ((finer p n).below * d)) ≡ pos n *ℤ pos (t * (p.below * d))
  distance_finer t d = distance_times n t (p.below * d) ((finer p n).below * d) (ap (λ b. b * d) (below_finer p n) ∙ regroup p.below n d)
    where
      regroup : (b n d : ℕ) → b * n * d ≡ n * (b * d)
      regroup b n d = grind arith

  -- the name is put at one place of the point
  meets_finer : (s : Place) → Meets Fields s x R p ↔ Meets Fields s x R (finer p n)
  meets_finer (Exact e d) = moved_finer (value e p) (value e (finer p n)) d (value_finer e p n)
  meets_finer (AboveBy e d) = small_iff (λ t s. moved_finer _ _ (d * s) (sum_times (pos n) _ _ (pos s) _ _ (value_finer e p n) (distance_finer t d)))
  meets_finer (BelowBy e d) = small_iff (λ t s. moved_finer _ _ (d * s) (difference_times (pos n) _ (value e p) (pos s) _ (pos (t * (p.below * d))) (value_finer e p n) (distance_finer t d)))
  meets_finer PlusInfinity = large_iff (λ t s. moved_finer _ _ s (multiple_times n _ p.below t (below_finer p n)))
  meets_finer MinusInfinity = large_iff (λ t s. moved_finer _ _ s (multiple_times n _ p.below (neg_ℤ t) (below_finer p n)))
  meets_finer (Periodic j q) = let one = λ (t : ℤ). moved_finer _ _ 1 (multiple_times n _ p.below (j +ℤ q *ℤ t) (below_finer p n)) in (λ h. (h.0, λ t i. (one t).0 (h.1 t i)), λ h. (h.0, λ t i. (one t).1 (h.1 t i)))

all_finer : (answers : List Answer) (R : Point ℕ → Type 0) → IsOfPoint R → IsOfPoint (λ p. MeetsAll Fields answers R p)
all_finer [] R of = of
all_finer (a ∷ answers) R of = λ p n positive. meets_finer (λ q. MeetsAll Fields answers R q) (all_finer answers R of) a.name p n positive a.place

module _ (R : Point ℕ → Type 0) (of : IsOfPoint R) (x : ℕ) (p : Point ℕ) where
  -- the form and the denominator, g times as large as those in lowest terms
  module _ (e : Form) (d : ℕ) (positive : 0 < d) where
    abbrev g : ℕ
    g = divisor_of e d

    value_times : value e p ≡ pos g *ℤ value (form_over g e) p
    value_times = sym ((lowest e d positive).value_times p)

    over_times : d ≡ g * (d / g)
    over_times = let h = (lowest e d positive).below_times in let m = pos_mul g (d / g) in omega (arith, ints)

    times : (k l : ℤ) (s : ℕ) → l ≡ pos g *ℤ k → R (move nat_eq p x k (d / g * s)) ↔ R (move nat_eq p x l (d * s))
    times k l s e' = moved_times R of x p g (positive_pos (lowest e d positive).divisor_positive) k l (d / g * s) (d * s) e' (ap (λ i. i * s) over_times ∙ assoc g (d / g) s)
      where
        assoc : (a b s : ℕ) → a * b * s ≡ a * (b * s)
        assoc a b s = grind arith

    distance : (t : ℕ) → pos (t * (p.below * d)) ≡ pos g *ℤ pos (t * (p.below * (d / g)))
    distance t = distance_times g t (p.below * (d / g)) (p.below * d) (ap (λ i. p.below * i) over_times ∙ regroup p.below g (d / g))
      where
        regroup : (b a m : ℕ) → b * (a * m) ≡ a * (b * m)
        regroup b a m = grind arith

  meets_lowest : (s : Place) → IsFieldPlace s → Meets Fields (lowest_place s) x R p ↔ Meets Fields s x R p
  meets_lowest (Exact e d) h = moved_times R of x p (divisor_of e d) (positive_pos (lowest e d h).divisor_positive) _ _ _ _ (value_times e d h) (over_times e d h)
  meets_lowest (AboveBy e d) h = small_iff (λ t s. times e d h _ _ s (sum_times (pos (divisor_of e d)) _ _ (pos s) _ _ (value_times e d h) (distance e d h t)))
  meets_lowest (BelowBy e d) h = small_iff (λ t s. times e d h _ _ s (difference_times (pos (divisor_of e d)) _ _ (pos s) _ (pos (t * (p.below * (d / divisor_of e d)))) (value_times e d h) (distance e d h t)))
  meets_lowest PlusInfinity h = (λ t. t, λ t. t)
  meets_lowest MinusInfinity h = (λ t. t, λ t. t)
  meets_lowest (Periodic j q) h = absurd h

-- ---- over the integers

taken_lowest : (s : Place) (x : ℕ) (R : Point ℕ → Type 0) (p : Point ℕ) → IsIntegerPlace s → Meets Integers (lowest_place s) x R p ↔ Meets Integers s x R p
taken_lowest (Exact e d) x R p h =
    let l = lowest e d h in
    let g = pos (divisor_of e d) in
    let both : (k : ℤ) → g *ℤ (k *ℤ pos (d / divisor_of e d)) ≡ k *ℤ pos d = λ k. mul_left_comm g k (pos (d / divisor_of e d)) ∙ ap (λ z. k *ℤ z) l.below_times in (
      λ (k, is, t). (k, sym (l.value_times p) ∙ ap (λ z. g *ℤ z) is ∙ both k, t),
      λ (k, is, t). (k, cancel_positive g l.divisor_positive (l.value_times p ∙ is ∙ sym (both k)), t),
    )
taken_lowest (AboveBy e d) x R p h = absurd h
taken_lowest (BelowBy e d) x R p h = absurd h
taken_lowest PlusInfinity x R p h = absurd h
taken_lowest MinusInfinity x R p h = absurd h
taken_lowest (Periodic j q) x R p h = (λ t. t, λ t. t)

-- ---- answers

-- more places, of which what is put there is the same
then_lowest : (c : Context) (s : Place) (x : ℕ) (R S : Point ℕ → Type 0) (p : Point ℕ) → IsPlaceIn c s → Meets c (lowest_place s) x R p ↔ Meets c s x R p → ((q : Point ℕ) → R q ↔ S q) → Meets c (lowest_place s) x R p ↔ Meets c s x S p
then_lowest c s x R S p i e f = both_ways e (meets_map c s x R S p (λ k m a. (f (move nat_eq p x k m)).0) i, meets_map c s x S R p (λ k m a. (f (move nat_eq p x k m)).1) i)

lowest_fields : (answers : List Answer) (R : Point ℕ → Type 0) → IsOfPoint R → EachOf (λ (a : Answer). IsFieldPlace a.place) answers → (p : Point ℕ) → MeetsAll Fields (map lowest_answer answers) R p ↔ MeetsAll Fields answers R p
lowest_fields [] R of i p = (λ t. t, λ t. t)
lowest_fields (a ∷ rest) R of i p =
    then_lowest Fields a.place a.name (λ q. MeetsAll Fields (map lowest_answer rest) R q) (λ q. MeetsAll Fields rest R q) p i.0
    (meets_lowest (λ q. MeetsAll Fields (map lowest_answer rest) R q) (all_finer (map lowest_answer rest) R of) a.name p a.place i.0) (lowest_fields rest R of i.1)

lowest_integers : (answers : List Answer) (R : Point ℕ → Type 0) → EachOf (λ (a : Answer). IsIntegerPlace a.place) answers → (p : Point ℕ) → MeetsAll Integers (map lowest_answer answers) R p ↔ MeetsAll Integers answers R p
lowest_integers [] R i p = (λ t. t, λ t. t)
lowest_integers (a ∷ rest) R i p =
    then_lowest Integers a.place a.name (λ q. MeetsAll Integers (map lowest_answer rest) R q) (λ q. MeetsAll Integers rest R q) p i.0
    (taken_lowest a.place a.name (λ q. MeetsAll Integers (map lowest_answer rest) R q) p i.0) (lowest_integers rest R i.1)

-- the answers make true what they made true
pub holds_lowest : (c : Context) (answers : List Answer) (f : Tree) (p : Point ℕ) → EachOf (λ (a : Answer). IsPlaceIn c a.place) answers → Holds c (map lowest_answer answers) f p ↔ Holds c answers f p
holds_lowest Fields answers f p i = lowest_fields answers (λ q. TrueAt Fields f q) (λ q n positive. tree_finer Fields f q n positive) i p
holds_lowest Integers answers f p i = lowest_integers answers (λ q. TrueAt Integers f q) i p

-- ---- one place

form_names : (e : Form) (d : ℕ) (y : ℕ) → 0 < d → ¬ (coefficient y (form_over (divisor_of e d) e) ≡ pos 0) → ¬ (coefficient y e ≡ pos 0)
form_names e d y h n z = let l = lowest e d h in n (cancel_positive (pos (divisor_of e d)) l.divisor_positive (l.coefficient_times y ∙ z ∙ sym (mul_zero (pos (divisor_of e d)))))

-- what is known of a place in lowest terms
pub record IsLowestOf (c : Context) (s : Place) : Type 0 where
  pub place : IsPlaceIn c (lowest_place s)
  pub names : (y : ℕ) → PlaceMentions (lowest_place s) y → PlaceMentions s y
  pub lowest : IsInLowestTerms (lowest_place s)

pub lowest_is : (c : Context) (s : Place) → IsPlaceIn c s → IsLowestOf c s
lowest_is Fields (Exact e d) h = record { place = positive_pos (lowest e d h).below_positive; names = λ y. form_names e d y h; lowest = divided_lowest e d h }
lowest_is Fields (AboveBy e d) h = record { place = positive_pos (lowest e d h).below_positive; names = λ y. form_names e d y h; lowest = divided_lowest e d h }
lowest_is Fields (BelowBy e d) h = record { place = positive_pos (lowest e d h).below_positive; names = λ y. form_names e d y h; lowest = divided_lowest e d h }
lowest_is Fields PlusInfinity h = record { place = tt; names = λ y m. m; lowest = tt }
lowest_is Fields MinusInfinity h = record { place = tt; names = λ y m. m; lowest = tt }
lowest_is Fields (Periodic j q) h = absurd h
lowest_is Integers (Exact e d) h = record { place = positive_pos (lowest e d h).below_positive; names = λ y. form_names e d y h; lowest = divided_lowest e d h }
lowest_is Integers (AboveBy e d) h = absurd h
lowest_is Integers (BelowBy e d) h = absurd h
lowest_is Integers PlusInfinity h = absurd h
lowest_is Integers MinusInfinity h = absurd h
lowest_is Integers (Periodic j q) h = record { place = h; names = λ y m. m; lowest = tt }
