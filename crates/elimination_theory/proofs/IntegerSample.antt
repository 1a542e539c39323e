-- A formula is true at the sample of a place of the integers that makes it true; there is one sample.
use Rattle.std.proofs.Common.{◌≡◌, ℕ, suc, zero, ◌<◌, ◌≤◌, ℤ, pos, negsuc, ◌+ℤ◌, ◌-ℤ◌, ◌*ℤ◌, neg_ℤ, ◌≤ℤ◌, ◌<ℤ◌, ◌⊎◌, ◌↔◌, arith, refl, inl, inr, subst, sym, ap, ◌∙◌, ⊎_elim, unsigned_abs, nat_eq, List, [], ◌∷◌, true, false}
use Rattle.std.proofs.lemmas.Int.{ints}
use Rattle.exact_numbers.specs.Divides.{Divides}
use Rattle.exact_numbers.proofs.Ring.{one_mul, ring, mul_zero, mul_comm, mul_neg, neg_mul}
use Rattle.exact_numbers.proofs.Order.{cancel_positive, at_most_mul, mul_at_most, by_less, by_zero}
use Rattle.exact_numbers.proofs.Divisibility.{divides_zero, divides_along}
use Rattle.logic_meaning.specs.Context.{Integers}
use Rattle.logic_meaning.specs.Point.{Point, move}
use Rattle.logic_meaning.specs.Every.{Every}
use Rattle.logic_meaning.specs.Some.{SomeOf, EachOf}
use Rattle.logic_meaning.specs.Plain.{IsPlain}
use Rattle.logic_meaning.specs.Form.{Form, value, coefficient, without}
use Rattle.logic_meaning.specs.Atom.{Atom, Compare, Congruent, Relation, Relates, mirrored, Says}
use Rattle.logic_meaning.specs.Answer.{Exact, AboveBy, BelowBy, PlusInfinity, MinusInfinity, Periodic, Holds}
use Rattle.logic_meaning.specs.Tree.{Tree, TrueAt}
use Rattle.formula_laws.proofs.EachAtom.{every_all, every_both}
use Rattle.formula_laws.proofs.Relations.{relates_turn, relates_along}
use Rattle.formula_laws.proofs.Iff.{both_ways, turn_round, not_iff}
use Rattle.elimination_theory.proofs.FieldsLine.{value_still}
use Rattle.logic_meaning.specs.Atoms.{atoms_of}
use Rattle.logic_meaning.specs.declared.side.Side.{Side}
use Rattle.logic_meaning.specs.declared.side.Side.TheVariants.{Lower, Upper}
use Rattle.logic_meaning.specs.Substitution.{beyond}
use Rattle.elimination_theory.specs.AtPlace.{at_place}
use Rattle.logic_meaning.specs.IntegersSubstitution.{along, integer_atom}
use Rattle.logic_meaning.specs.IntegersPoints.{signed}
use Rattle.elimination_theory.specs.IntegersTheorems.{IsPeriodOf, Suits}
use Rattle.elimination_theory.specs.IntegersSample.{IsPast, LiesBeyond, HasCriticalValue, ComesFirst, IsFarMember, IsClassSample, IntegerSampleIsTrue, IntegerSampleExists, IntegerSampleIsUnique}
use Rattle.elimination_theory.proofs.SomeListed.{each_among, every_of_atoms, atoms_of_every}
use Rattle.elimination_theory.proofs.MoreArithmetic.{steps_far, at_most_abs, at_least_neg_abs}
use Rattle.elimination_theory.proofs.IntegerEval.{Downwards, eval_map, every_downwards}
use Rattle.elimination_theory.proofs.IntegerPlain.{plain_eval, replaced_eval}
use Rattle.elimination_theory.proofs.IntegerRelation.{relates_below}
use Rattle.elimination_theory.proofs.IntegerCompare.{IsCongruent}
use Rattle.elimination_theory.proofs.IntegerAtom.{says_at, value_at, along_zero, below_all_says, periodic_says}
use Rattle.formula_laws.proofs.Listed.{some_among}
use Rattle.elimination_theory.proofs.IntegerSides.{signed_mul, signed_signed, along_signed}
use Rattle.elimination_theory.proofs.IntegerHolds.{substitution_holds}

-- ---- beyond the critical values a formula says what it says far out

past_says : (c : ℤ) (r : Relation) (f : Form) (p : Point ℕ) (v : ℤ) → (c ≡ pos 0 → value f p ≡ v) → IsPast c v → Relates r v (pos 0) ↔ TrueAt Integers (beyond c r f) p
past_says (pos zero) r f p v rest past = turn_round (relates_along r (pos 0) (rest refl))
past_says (pos (suc n)) r f p v rest past = both_ways (relates_below r (pos 0) v past) (below_all_says r p)
past_says (negsuc n) r f p v rest past = both_ways (relates_turn r v (pos 0)) (both_ways (relates_below (mirrored r) v (pos 0) past) (below_all_says (mirrored r) p))

-- without the name its number does not matter
value_stays : (f : Form) (p : Point ℕ) (x : ℕ) (k : ℤ) → coefficient x f ≡ pos 0 → value f p ≡ value f (move nat_eq p x k 1)
value_stays f p x k e = sym (value_still f p x k 1 e ∙ one_mul (value f p))

-- a step by multiples of a period keeps a congruence
class_congruent : (n : ℕ) (a t j k q : ℤ) → Divides q (k -ℤ j) → Divides (pos n) (a *ℤ q) → IsCongruent n a t j → IsCongruent n a t k
class_congruent n a t j k q d e (w, is) = (w +ℤ e.quotient *ℤ d.quotient, moved_is a t j k q (pos n) d.quotient e.quotient w d.exact e.exact is)
  where
    moved_is : (a t j k q n m c w : ℤ) → k -ℤ j ≡ q *ℤ m → a *ℤ q ≡ n *ℤ c → a *ℤ j +ℤ t ≡ w *ℤ n → a *ℤ k +ℤ t ≡ (w +ℤ c *ℤ m) *ℤ n
    moved_is a t j k q n m c w e f g =
        let x = simp ring at (ap (λ z. a *ℤ z) e) in
        let y = simp ring at (ap (λ z. z *ℤ m) f) in
        simp ring (omega (arith, ints, x, y, g))

class_turned : (q k j : ℤ) → Divides q (k -ℤ j) → Divides q (j -ℤ k)
class_turned q k j d = record { quotient = neg_ℤ d.quotient; exact = turned_is q k j d.quotient d.exact }
  where
    turned_is : (q k j m : ℤ) → k -ℤ j ≡ q *ℤ m → j -ℤ k ≡ q *ℤ neg_ℤ m
    turned_is q k j m e = let n = mul_neg q m in omega (arith, ints)

class_iff : (n : ℕ) (a t j k q : ℤ) → Divides q (k -ℤ j) → Divides (pos n) (a *ℤ q) → IsCongruent n a t k ↔ IsCongruent n a t j
class_iff n a t j k q d e = (class_congruent n a t k j q (class_turned q k j d) e, class_congruent n a t j k q d e)

beyond_says : (a : Atom) (x : ℕ) (j q k : ℤ) (p : Point ℕ) → p.below ≡ 1 → Divides q (k -ℤ j) → IsPeriodOf x q a → LiesBeyond x q p k a →
    Says a (move nat_eq p x k 1) ↔ TrueAt Integers (integer_atom x (Periodic j q) a) p
beyond_says (Compare r f) x j q k p whole class period past =
    past_says (along q (coefficient x f)) r f p (value f (move nat_eq p x k 1)) (λ e. value_stays f p x k (along_zero q (coefficient x f) e)) past
beyond_says (Congruent true n f) x j q k p whole class period past =
    both_ways (says_at (Congruent true n f) p x k whole) (both_ways (class_iff n (coefficient x f) _ j k q class period) (periodic_says (Congruent true n f) p x j q whole))
beyond_says (Congruent false n f) x j q k p whole class period past =
    both_ways (says_at (Congruent false n f) p x k whole) (both_ways (not_iff (class_iff n (coefficient x f) _ j k q class period)) (periodic_says (Congruent false n f) p x j q whole))

far_true : (x : ℕ) (j q : ℤ) (f : Tree) (p : Point ℕ) (k : ℤ) → ¬ (q ≡ pos 0) → Every (Suits x (Periodic j q)) f → IsPlain f → p.below ≡ 1 →
    IsFarMember x j q f p k → Holds Integers (at_place x (Periodic j q)) f p → TrueAt Integers f (move nat_eq p x k 1)
far_true x j q f p k place suits plain whole member holds =
    let substituted = ((substitution_holds x (Periodic j q) f p place suits plain whole).0 holds).1 in
    (plain_eval Says (move nat_eq) Integers (move nat_eq p x k 1) f plain).1
    (eval_map _ _ f (every_both _ _ _ (λ a suit past. (beyond_says a x j q k p whole member.0 suit past).1) f suits member.1)
    ((replaced_eval (integer_atom x (Periodic j q)) Says (move nat_eq) Integers p f plain).0 substituted))

-- ---- without critical values

each_not : {X : Type 0} (P Q : X → Type 0) (xs : List X) → ((x : X) → ¬ (P x) → Q x) → ¬ (SomeOf P xs) → EachOf Q xs
each_not P Q [] gives none = tt
each_not P Q (x ∷ xs) gives none = (gives x (λ h. none (inl h)), each_not P Q xs gives (λ h. none (inr h)))

past_zero : (c v : ℤ) → ¬ (¬ (c ≡ pos 0)) → IsPast c v
past_zero (pos zero) v none = tt
past_zero (pos (suc n)) v none = absurd (none (λ (e : pos (suc n) ≡ pos 0). omega (arith, ints)))
past_zero (negsuc n) v none = absurd (none (λ (e : negsuc n ≡ pos 0). omega (arith, ints)))

zero_along : (q c : ℤ) → c ≡ pos 0 → along q c ≡ pos 0
zero_along (pos n) c e = omega (arith, ints)
zero_along (negsuc n) c e = e

not_critical : (x : ℕ) (q k : ℤ) (p : Point ℕ) (a : Atom) → ¬ (HasCriticalValue x a) → LiesBeyond x q p k a
not_critical x q k p (Compare r f) none = past_zero (along q (coefficient x f)) _ (λ (other : ¬ (along q (coefficient x f) ≡ pos 0)). none (λ e. other (zero_along q (coefficient x f) e)))
not_critical x q k p (Congruent holds n f) none = tt

-- a form over a positive scale is one number at most
same_quotient : (l : ℕ) (i k : ℤ) → 0 < l → i *ℤ pos l ≡ k *ℤ pos l → i ≡ k
same_quotient l i k h e =
    let positive : pos 0 <ℤ pos l = omega (arith, ints) in
    cancel_positive (pos l) positive (mul_comm (pos l) i ∙ e ∙ mul_comm k (pos l))

pub sample_is_true : IntegerSampleIsTrue
sample_is_true x (Exact e l) f p k place suits plain whole (i, is, holding) sample =
    subst (λ n. TrueAt Integers f (move nat_eq p x n 1)) (same_quotient l i k place (sym is ∙ sample)) holding
sample_is_true x (AboveBy e l) f p k place suits plain whole holds sample = absurd sample
sample_is_true x (BelowBy e l) f p k place suits plain whole holds sample = absurd sample
sample_is_true x PlusInfinity f p k place suits plain whole holds sample = absurd sample
sample_is_true x MinusInfinity f p k place suits plain whole holds sample = absurd sample
sample_is_true x (Periodic j q) f p k place suits plain whole holds (inl alone) =
    far_true x j q f p k place suits plain whole (
      divides_along (zero_is j k alone.1) (divides_zero q),
      every_of_atoms (LiesBeyond x q p k) f (each_not (HasCriticalValue x) (LiesBeyond x q p k) (atoms_of f) (not_critical x q k p) alone.0),
    ) holds
  where
    zero_is : (j k : ℤ) → k ≡ j → pos 0 ≡ k -ℤ j
    zero_is j k e = omega (arith, ints)
sample_is_true x (Periodic j q) f p k place suits plain whole holds (inr first) = far_true x j q f p k place suits plain whole first.1 holds

-- ---- there is one

pub sample_is_unique : IntegerSampleIsUnique
sample_is_unique x (Exact e l) f p k w place sample other = same_quotient l k w place (sym sample ∙ other)
sample_is_unique x (AboveBy e l) f p k w place sample other = absurd place
sample_is_unique x (BelowBy e l) f p k w place sample other = absurd place
sample_is_unique x PlusInfinity f p k w place sample other = absurd place
sample_is_unique x MinusInfinity f p k w place sample other = absurd place
sample_is_unique x (Periodic j q) f p k w place (inl alone) (inl others) = alone.1 ∙ sym others.1
sample_is_unique x (Periodic j q) f p k w place (inl alone) (inr first) = absurd (alone.0 first.0)
sample_is_unique x (Periodic j q) f p k w place (inr first) (inl alone) = absurd (alone.0 first.0)
sample_is_unique x (Periodic j q) f p k w place (inr first) (inr second) = both_first q k w (first.2 w second.1) (second.2 k first.1)
  where
    both_first : (q k w : ℤ) → ComesFirst q k w → ComesFirst q w k → k ≡ w
    both_first (pos q) k w h g = omega (arith, ints)
    both_first (negsuc q) k w h g = omega (arith, ints)

-- ---- a greatest number of steps

-- the greatest of the numbers up to n that a test accepts which accepts 0
pub record Greatest (Accepts : ℕ → Type 0) (n : ℕ) : Type 0 where
  pub index : ℕ
  pub accepted : Accepts index
  pub others : (m : ℕ) → m ≤ n → index < m → ¬ (Accepts m)

last_or_less : (m n : ℕ) → m ≤ suc n → (m ≡ suc n) ⊎ (m ≤ n)
last_or_less m n h = search arith

later : (Accepts : ℕ → Type 0) (n : ℕ) → Greatest Accepts n → ¬ (Accepts (suc n)) → Greatest Accepts (suc n)
later Accepts n g none = record {
  index = g.index;
  accepted = g.accepted;
  others = λ m low high. elim (last_or_less m n low) [ inl e ↦ (λ h. none (subst Accepts e h)) | inr less ↦ g.others m less high ];
}

greatest : (Accepts : ℕ → Type 0) → ((m : ℕ) → Accepts m ⊎ ¬ (Accepts m)) → Accepts 0 → (n : ℕ) → Greatest Accepts n
greatest Accepts test first zero = record { index = 0; accepted = first; others = λ m low high. absurd (omega arith) }
greatest Accepts test first (suc n) = elim (test (suc n)) [
  | inl here ↦ record { index = suc n; accepted = here; others = λ m low high. absurd (omega arith) }
  | inr none ↦ later Accepts n (greatest Accepts test first n) none
]

-- ---- the critical values as a side sees them

-- far enough down the comparison is past
past_far : (c t k : ℤ) → k <ℤ neg_ℤ (pos (unsigned_abs t)) → IsPast c (c *ℤ k +ℤ t)
past_far (pos zero) t k h = tt
past_far (pos (suc n)) t k h =
    let high = at_most_abs t in
    let p : pos 0 <ℤ pos (suc n) = omega (arith, ints) in
    let q : pos 0 ≤ℤ neg_ℤ k = omega (arith, ints) in
    let m = at_most_mul p q in
    let e = mul_neg (pos (suc n)) k in
    omega (arith, ints)
past_far (negsuc n) t k h =
    let low = at_least_neg_abs t in
    let p : pos 0 <ℤ pos (suc n) = omega (arith, ints) in
    let q : pos 0 ≤ℤ neg_ℤ k = omega (arith, ints) in
    let m = at_most_mul p q in
    let e = mul_neg (pos (suc n)) k in
    let g = neg_mul (pos (suc n)) k in
    omega (arith, ints)

-- far enough up it is not, where the name stands in it
past_near : (c t k : ℤ) → ¬ (c ≡ pos 0) → pos (unsigned_abs t) ≤ℤ k → ¬ (IsPast c (c *ℤ k +ℤ t))
past_near (pos zero) t k other h = absurd (other refl)
past_near (pos (suc n)) t k other h = λ (past : (pos (suc n) *ℤ k +ℤ t) <ℤ pos 0).
    let low = at_least_neg_abs t in
    let p : pos 0 <ℤ pos (suc n) = omega (arith, ints) in
    let q : pos 0 ≤ℤ k = omega (arith, ints) in
    let m = at_most_mul p q in
    omega (arith, ints)
past_near (negsuc n) t k other h = λ (past : pos 0 <ℤ (negsuc n *ℤ k +ℤ t)).
    let high = at_most_abs t in
    let p : pos 0 <ℤ pos (suc n) = omega (arith, ints) in
    let q : pos 0 ≤ℤ k = omega (arith, ints) in
    let m = at_most_mul p q in
    let g = neg_mul (pos (suc n)) k in
    omega (arith, ints)

past_test : (c v : ℤ) → IsPast c v ⊎ ¬ (IsPast c v)
past_test (pos zero) v = inl tt
past_test (pos (suc n)) v = by_less v (pos 0) (λ l. inl l) (λ (m : pos 0 ≤ℤ v). inr (λ (l : v <ℤ pos 0). omega (arith, ints)))
past_test (negsuc n) v = by_less (pos 0) v (λ l. inl l) (λ (m : v ≤ℤ pos 0). inr (λ (l : pos 0 <ℤ v). omega (arith, ints)))

beyond_test : (x : ℕ) (q k : ℤ) (p : Point ℕ) (a : Atom) → LiesBeyond x q p k a ⊎ ¬ (LiesBeyond x q p k a)
beyond_test x q k p (Compare r f) = past_test (along q (coefficient x f)) (value f (move nat_eq p x k 1))
beyond_test x q k p (Congruent holds n f) = inl tt

each_test : {X : Type 0} (P : X → Type 0) → ((x : X) → P x ⊎ ¬ (P x)) → (xs : List X) → EachOf P xs ⊎ ¬ (EachOf P xs)
each_test P test [] = inl tt
each_test P test (x ∷ xs) = elim (test x) [
  | inl here ↦ ⊎_elim (λ rest. inl (here, rest)) (λ none. inr (λ e. none e.1)) (each_test P test xs)
  | inr none ↦ inr (λ e. none e.0)
]

every_test : (P : Atom → Type 0) → ((a : Atom) → P a ⊎ ¬ (P a)) → (f : Tree) → Every P f ⊎ ¬ (Every P f)
every_test P test f = ⊎_elim (λ e. inl (every_of_atoms P f e)) (λ none. inr (λ e. none (atoms_of_every P f e))) (each_test P test (atoms_of f))

some_test : {X : Type 0} (P : X → Type 0) → ((x : X) → P x ⊎ ¬ (P x)) → (xs : List X) → SomeOf P xs ⊎ ¬ (SomeOf P xs)
some_test P test [] = inr (λ n. n)
some_test P test (x ∷ xs) = elim (test x) [
  | inl here ↦ inl (inl here)
  | inr none ↦ ⊎_elim (λ some. inl (inr some)) (λ no. inr (⊎_elim none no)) (some_test P test xs)
]

critical_test : (x : ℕ) (a : Atom) → HasCriticalValue x a ⊎ ¬ (HasCriticalValue x a)
critical_test x (Compare r f) = by_zero (coefficient x f) (λ e. inr (λ other. other e)) (λ other. inl other)
critical_test x (Congruent holds n f) = inr (λ n. n)

either_at_most : (m n : ℕ) → (m ≤ n) ⊎ (n ≤ m)
either_at_most m n = search arith

at_most_or_more : {P : Type 0} (m n : ℕ) → n ≤ m → (n < m → P) → (n ≡ m → P) → P
at_most_or_more m n h more same = ⊎_elim more same (more_or_same m n h)
  where
    more_or_same : (m n : ℕ) → n ≤ m → (n < m) ⊎ (n ≡ m)
    more_or_same m n h = search arith

-- so many steps lead from k to b or further
steps_reach : (k b : ℤ) (step m : ℕ) → 0 < step → unsigned_abs (b -ℤ k) ≤ m → b ≤ℤ (k +ℤ pos step *ℤ pos m)
steps_reach k b step m h many =
    let high = at_most_abs (b -ℤ k) in
    let p : pos 0 <ℤ pos step = omega (arith, ints) in
    let q : pos 0 ≤ℤ pos m = omega (arith, ints) in
    let g = at_most_mul p q in
    omega (arith, ints)

steps_less : (k : ℤ) (step : ℕ) (m n : ℤ) → m ≤ℤ n → (k +ℤ pos step *ℤ m) ≤ℤ (k +ℤ pos step *ℤ n)
steps_less k step m n h =
    let q : pos 0 ≤ℤ pos step = omega (arith, ints) in
    let g = mul_at_most (pos step) q h in
    omega (arith, ints)

no_step : (k : ℤ) (step : ℕ) → k +ℤ pos step *ℤ pos 0 ≡ k
no_step k step = let z = mul_zero (pos step) in omega (arith, ints)

first_comes : (side : Side) (step : ℕ) → 0 < step → (k w : ℤ) → signed side w ≤ℤ k → ComesFirst (signed side (neg_ℤ (pos step))) (signed side k) w
first_comes Lower zero h k w less = absurd (omega arith)
first_comes Upper zero h k w less = absurd (omega arith)
first_comes Lower (suc n) h k w less = less
first_comes Upper (suc n) h k w less = omega (arith, ints)

class_of : (side : Side) (step : ℕ) (j z : ℤ) → Divides (signed side (neg_ℤ (pos step))) (signed side (signed side j +ℤ pos step *ℤ z) -ℤ j)
class_of Lower step j z = record { quotient = neg_ℤ z; exact = down (pos step) j z }
  where
    down : (s j z : ℤ) → (j +ℤ s *ℤ z) -ℤ j ≡ neg_ℤ s *ℤ neg_ℤ z
    down s j z = simp ring (omega (arith, ints))
class_of Upper step j z = record { quotient = neg_ℤ z; exact = up (pos step) j z }
  where
    up : (s j z : ℤ) → neg_ℤ (neg_ℤ j +ℤ s *ℤ z) -ℤ j ≡ neg_ℤ (neg_ℤ s) *ℤ neg_ℤ z
    up s j z = simp ring (omega (arith, ints))

from_class : (side : Side) (step : ℕ) (j w : ℤ) → Divides (signed side (neg_ℤ (pos step))) (w -ℤ j) → (z : ℤ) × (signed side w ≡ signed side j +ℤ pos step *ℤ z)
from_class Lower step j w d = (neg_ℤ d.quotient, down (pos step) j w d.quotient d.exact)
  where
    down : (s j w m : ℤ) → w -ℤ j ≡ neg_ℤ s *ℤ m → w ≡ j +ℤ s *ℤ neg_ℤ m
    down s j w m e = let a = neg_mul s m in let b = mul_neg s m in omega (arith, ints)
from_class Upper step j w d = (neg_ℤ d.quotient, up (pos step) j w d.quotient d.exact)
  where
    up : (s j w m : ℤ) → w -ℤ j ≡ neg_ℤ (neg_ℤ s) *ℤ m → neg_ℤ w ≡ neg_ℤ j +ℤ s *ℤ neg_ℤ m
    up s j w m e = let a = neg_mul (neg_ℤ s) m in let b = neg_mul s m in let c = mul_neg s m in omega (arith, ints)

module _ (side : Side) (x step : ℕ) (p : Point ℕ) (positive : 0 < step) where
  abbrev way : ℤ
  way = signed side (neg_ℤ (pos step))

  -- the atom's critical value is passed at k, as the side sees it
  abbrev Lies : ℤ → Atom → Type 0
  Lies k a = LiesBeyond x way p (signed side k) a

  side_value : (f : Form) (k : ℤ) → value f (move nat_eq p x (signed side k) 1) ≡ along way (coefficient x f) *ℤ k +ℤ value (without x f) p
  side_value f k =
      value_at f p x (signed side k)
      ∙ ap (λ z. z +ℤ value (without x f) p) (signed_mul side (coefficient x f) k ∙ ap (λ b. b *ℤ k) (sym (along_signed side step (coefficient x f) positive)))

  lies_far : (a : Atom) → Downwards (λ k. Lies k a)
  lies_far (Compare r f) = (
    neg_ℤ (pos (unsigned_abs (value (without x f) p))),
    λ k h. subst (IsPast (along way (coefficient x f))) (sym (side_value f k)) (past_far (along way (coefficient x f)) (value (without x f) p) k h),
  )
  lies_far (Congruent holds n f) = (pos 0, λ k h. tt)

  lies_not : (a : Atom) → HasCriticalValue x a → (b : ℤ) × ((k : ℤ) → b ≤ℤ k → ¬ (Lies k a))
  lies_not (Compare r f) critical = (
    pos (unsigned_abs (value (without x f) p)),
    λ k h past. past_near (along way (coefficient x f)) (value (without x f) p) k (λ e. critical (along_zero way (coefficient x f) e)) h
        (subst (IsPast (along way (coefficient x f))) (side_value f k) past),
  )
  lies_not (Congruent holds n f) critical = absurd critical

  -- so far down all critical values are passed, in the class of j
  record Start (j : ℤ) (f : Tree) : Type 0 where
    steps : ℤ
    lies : Every (Lies (signed side j +ℤ neg_ℤ (pos step) *ℤ steps)) f

  start : (j : ℤ) (f : Tree) → Start j f
  start j f =
      let bound : Downwards (λ k. Every (Lies k) f) = every_downwards Lies f (every_all _ lies_far f) in
      let far : (v : ℤ) × ((t : ℤ) → v <ℤ t → (signed side j +ℤ neg_ℤ (pos step) *ℤ t) <ℤ bound.0) = steps_far (signed side j) bound.0 step positive in
      record {
        steps = far.0 +ℤ pos 1;
        lies = bound.1 _ (far.1 (far.0 +ℤ pos 1) (omega (arith, ints)));
      }

  module _ (j : ℤ) (f : Tree) (s : Start j f) where
    abbrev base : ℤ
    base = signed side j +ℤ neg_ℤ (pos step) *ℤ s.steps

    abbrev Accepts : ℕ → Type 0
    Accepts m = Every (Lies (base +ℤ pos step *ℤ pos m)) f

    found : (n : ℕ) → Greatest Accepts n
    found n =
        greatest Accepts (λ m. every_test (Lies (base +ℤ pos step *ℤ pos m)) (beyond_test x way (signed side (base +ℤ pos step *ℤ pos m)) p) f)
        (subst (λ k. Every (Lies k) f) (sym (no_step base step)) s.lies) n

    -- so many steps up and more, none is beyond all critical values
    none_after : SomeOf (HasCriticalValue x) (atoms_of f) → (n : ℕ) × ((m : ℕ) → n ≤ m → ¬ (Accepts m))
    none_after critical =
        let a = some_among (HasCriticalValue x) (atoms_of f) critical in
        let not : (b : ℤ) × ((k : ℤ) → b ≤ℤ k → ¬ (Lies k a.0)) = lies_not a.0 a.2 in (
          unsigned_abs (not.0 -ℤ base),
          λ m many accepted. not.1 (base +ℤ pos step *ℤ pos m) (steps_reach base not.0 step m positive many)
              (each_among (Lies (base +ℤ pos step *ℤ pos m)) (atoms_of f) a.0 (atoms_of_every (Lies (base +ℤ pos step *ℤ pos m)) f accepted) a.1),
        )

    -- a member of the class is some steps from the base
    from_base : (w : ℤ) → Divides way (w -ℤ j) → (z : ℤ) × (signed side w ≡ base +ℤ pos step *ℤ z)
    from_base w d =
        let c : (z : ℤ) × (signed side w ≡ signed side j +ℤ pos step *ℤ z) = from_class side step j w d in
        (c.0 +ℤ s.steps, c.1 ∙ rebased (signed side j) (pos step) c.0 s.steps)
      where
        rebased : (j s z t : ℤ) → j +ℤ s *ℤ z ≡ (j +ℤ neg_ℤ s *ℤ t) +ℤ s *ℤ (z +ℤ t)
        rebased j s z t = simp ring (omega (arith, ints))

    -- no number of steps after the greatest is accepted
    none_above : (n : ℕ) (g : Greatest Accepts n) → ((m : ℕ) → n ≤ m → ¬ (Accepts m)) → (m : ℕ) → g.index < m → ¬ (Accepts m)
    none_above n g none m more = elim (either_at_most m n) [ inl low ↦ g.others m low more | inr high ↦ none m high ]

    -- each member of the class beyond all critical values is at most the greatest
    members_below : (n : ℕ) (g : Greatest Accepts n) → ((m : ℕ) → n ≤ m → ¬ (Accepts m)) → (w z : ℤ) → signed side w ≡ base +ℤ pos step *ℤ z →
        Every (Lies (signed side w)) f → signed side w ≤ℤ (base +ℤ pos step *ℤ pos g.index)
    members_below n g none w (negsuc i) e lies =
        subst (λ v. v ≤ℤ (base +ℤ pos step *ℤ pos g.index)) (sym e) (steps_less base step (negsuc i) (pos g.index) (omega (arith, ints)))
    members_below n g none w (pos m) e lies = elim (either_at_most m g.index) [
      | inl low ↦ subst (λ v. v ≤ℤ (base +ℤ pos step *ℤ pos g.index)) (sym e) (steps_less base step (pos m) (pos g.index) (omega (arith, ints)))
      | inr high ↦ at_most_or_more m g.index high (λ more. absurd (none_above n g none m more (subst (λ k. Every (Lies k) f) e lies)))
          (λ same. subst (λ v. v ≤ℤ (base +ℤ pos step *ℤ pos g.index)) (sym e) (steps_less base step (pos m) (pos g.index) (omega (arith, ints))))
    ]

    class_first : SomeOf (HasCriticalValue x) (atoms_of f) → (k : ℤ) × IsFarMember x j way f p k × ((w : ℤ) → IsFarMember x j way f p w → ComesFirst way k w)
    class_first critical =
        let none = none_after critical in
        let g : Greatest Accepts none.0 = found none.0 in
        let k : ℤ = base +ℤ pos step *ℤ pos g.index in (
          signed side k,
          (divides_along (ap (λ v. signed side v -ℤ j) (sym (rebased (signed side j) (pos step) (pos g.index) s.steps))) (class_of side step j (pos g.index -ℤ s.steps)), g.accepted),
          λ w member.
              let from = from_base w member.0 in
              first_comes side step positive k w
              (members_below none.0 g none.1 w from.0 from.1 (subst (λ v. Every (LiesBeyond x way p v) f) (sym (signed_signed side w)) member.1)),
        )
      where
        rebased : (j s n t : ℤ) → (j +ℤ neg_ℤ s *ℤ t) +ℤ s *ℤ n ≡ j +ℤ s *ℤ (n -ℤ t)
        rebased j s n t = simp ring (omega (arith, ints))

-- the sample of a residue class
class_sample : (side : Side) (x step : ℕ) (j : ℤ) (f : Tree) (p : Point ℕ) → 0 < step → (k : ℤ) × IsClassSample x j (signed side (neg_ℤ (pos step))) f p k
class_sample side x step j f p positive = elim (some_test (HasCriticalValue x) (critical_test x) (atoms_of f)) [
  | inl critical ↦ (let first = class_first side x step p positive j f (start side x step p positive j f) critical in (first.0, inr (critical, first.1, first.2)))
  | inr none ↦ (j, inl (none, refl))
]

pub sample_exists : IntegerSampleExists
sample_exists x (Exact e l) f p place whole (k, is, holding) = (k, is)
sample_exists x (AboveBy e l) f p place whole holds = absurd place
sample_exists x (BelowBy e l) f p place whole holds = absurd place
sample_exists x PlusInfinity f p place whole holds = absurd place
sample_exists x MinusInfinity f p place whole holds = absurd place
sample_exists x (Periodic j (pos zero)) f p place whole holds = absurd (place refl)
sample_exists x (Periodic j (pos (suc n))) f p place whole holds = class_sample Upper x (suc n) j f p (omega arith)
sample_exists x (Periodic j (negsuc n)) f p place whole holds = class_sample Lower x (suc n) j f p (omega arith)
