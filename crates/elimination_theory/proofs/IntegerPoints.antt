-- The test points of a side suffice, for each scale and span that fit.
use Rattle.std.proofs.Common.{◌≡◌, ℕ, suc, zero, ◌+◌, ◌/◌, ◌<◌, ℤ, pos, ◌+ℤ◌, ◌-ℤ◌, ◌*ℤ◌, neg_ℤ, ◌⊎◌, ◌↔◌, arith, refl, inl, inr, ⊎_elim, subst, sym, ap, ◌∙◌, nat_eq, flat_map}
use Rattle.std.proofs.lemmas.Int.{ints}
use Rattle.exact_numbers.proofs.Ring.{ring, mul_one, mul_comm}
use Rattle.logic_meaning.specs.Context.{Integers}
use Rattle.logic_meaning.specs.Point.{Point, move}
use Rattle.logic_meaning.specs.Formula.{Ex}
use Rattle.logic_meaning.specs.Every.{Every}
use Rattle.logic_meaning.specs.Some.{SomeOf}
use Rattle.logic_meaning.specs.Plain.{IsPlain}
use Rattle.logic_meaning.specs.Form.{Form, value, plus}
use Rattle.logic_meaning.specs.Atom.{Says}
use Rattle.logic_meaning.specs.Answer.{Exact, Periodic, Holds}
use Rattle.logic_meaning.specs.Tree.{Tree, TrueAt}
use Rattle.formula_laws.proofs.EachAtom.{every_map}
use Rattle.formula_laws.proofs.Values.{value_plus}
use Rattle.logic_meaning.specs.Atoms.{atoms_in, atoms_of}
use Rattle.logic_meaning.specs.declared.side.Side.{Side}
use Rattle.logic_meaning.specs.declared.side.Side.TheVariants.{Lower, Upper}
use Rattle.elimination_theory.specs.AtPlace.{at_place}
use Rattle.logic_meaning.specs.IntegersPoints.{signed, atom_starts, counted, class_points, next_points, points_with}
use Rattle.logic_meaning.specs.Same.{same_atom}
use Rattle.formula_laws.proofs.Same.{atom_same}
use Rattle.elimination_theory.proofs.SomeListed.{some_map, some_left, some_right, some_either, some_mapped, some_of_mapped, some_flat_map, some_of_flat_map, some_distinct, some_gives}
use Rattle.elimination_theory.proofs.IntegerEval.{Eval, Downwards}
use Rattle.elimination_theory.proofs.IntegerPlain.{plain_eval}
use Rattle.elimination_theory.proofs.IntegerDescent.{Stays, descent, far_down}
use Rattle.elimination_theory.proofs.IntegerSides.{Fits, After, SaysHere, SaysFar, IsNear, atom_step, atom_low, atom_stays, signed_signed, signed_add}

-- j + first is among the n numbers from first on
some_counted : (P : ℕ → Type 0) (first n j : ℕ) → j < n → P (j + first) → SomeOf P (counted first n)
some_counted P first zero j less here = absurd (omega arith)
some_counted P first (suc n) zero less here = inl (subst P (omega arith) here)
some_counted P first (suc n) (suc j) less here = inr (some_counted P (suc first) n j (omega arith) (subst P (omega arith) here))

-- ex(x, f) at a whole number
pub from_number : (f : Tree) (x : ℕ) (p : Point ℕ) (k : ℤ) → TrueAt Integers f (move nat_eq p x k 1) → TrueAt Integers (Ex x f) p
from_number f x p k true = (k, 1, refl, true)

pub to_number : (f : Tree) (x : ℕ) (p : Point ℕ) → TrueAt Integers (Ex x f) p → (k : ℤ) × TrueAt Integers f (move nat_eq p x k 1)
to_number f x p (k, m, one, true) = (k, subst (λ n. TrueAt Integers f (move nat_eq p x k n)) one true)

-- what holds at a place of the integers is true at a number
from_exact : (f : Tree) (x : ℕ) (p : Point ℕ) (e : Form) (l : ℕ) → Holds Integers (at_place x (Exact e l)) f p → TrueAt Integers (Ex x f) p
from_exact f x p e l (k, is, true) = from_number f x p k true

from_class : (f : Tree) (x : ℕ) (p : Point ℕ) (j q : ℤ) → Holds Integers (at_place x (Periodic j q)) f p → TrueAt Integers (Ex x f) p
from_class f x p j q (u, true) = from_number f x p _ (true (u +ℤ pos 1) (omega (arith, ints)))

pub class_value : (side : Side) (j s t : ℤ) (b : ℕ) → b ≡ 1 → signed side (j +ℤ s *ℤ t) ≡ (signed side j +ℤ signed side s *ℤ t) *ℤ pos b
class_value side j s t b whole =
    signed_add side j (s *ℤ t) ∙ ap (λ z. signed side j +ℤ z) (sides side s t)
    ∙ sym (mul_one (signed side j +ℤ signed side s *ℤ t)) ∙ ap (λ m. (signed side j +ℤ signed side s *ℤ t) *ℤ pos m) (sym whole)
  where
    sides : (side : Side) (s t : ℤ) → signed side (s *ℤ t) ≡ signed side s *ℤ t
    sides Lower s t = refl
    sides Upper s t = simp ring (omega (arith, ints))

after_value : (b : Form) (j : ℤ) (p : Point ℕ) (k : ℤ) (l : ℕ) → p.below ≡ 1 → pos l *ℤ k ≡ value b p +ℤ j → value (plus b j) p ≡ k *ℤ pos l
after_value b j p k l whole is =
    value_plus b j p ∙ ap (λ m. value b p +ℤ j *ℤ pos m) whole ∙ ap (λ z. value b p +ℤ z) (mul_one j) ∙ sym is ∙ mul_comm (pos l) k

module _ (side : Side) (x l d : ℕ) (p : Point ℕ) (whole : p.below ≡ 1) (scale_positive : 0 < l) (span_positive : 0 < d) (step_positive : 0 < d / l)
    (span : pos d ≡ pos l *ℤ pos (d / l)) (f : Tree) (plain : IsPlain f) (fits : Every (Fits l (d / l) x) f) where
  here : (k : ℤ) → TrueAt Integers f (move nat_eq p x (signed side k) 1) ↔ Eval (SaysHere side x l d (d / l) p whole k) f
  here k = plain_eval Says (move nat_eq) Integers (move nat_eq p x (signed side k) 1) f plain

  low : Every (λ a. Downwards (λ k. SaysHere side x l d (d / l) p whole k a ↔ SaysFar side x l d (d / l) p whole k a)) f
  low = every_map _ _ (λ a fit. atom_low side x l d (d / l) p whole scale_positive step_positive a fit) f fits

  stays : Every (Stays (SaysFar side x l d (d / l) p whole) (d / l)) f
  stays = every_map _ _ (λ a fit. atom_stays side x l d (d / l) p whole step_positive a fit) f fits

  steps : (k : ℤ) → Every (λ a. SaysHere side x l d (d / l) p whole k a → SaysHere side x l d (d / l) p whole (k -ℤ pos (d / l)) a ⊎ IsNear side x l d (d / l) p whole k a) f
  steps k = every_map _ _ (λ a fit. atom_step side x l d (d / l) p whole span_positive span a fit k) f fits

  -- a number after a start is a listed place that holds
  next_holds : (k : ℤ) → TrueAt Integers f (move nat_eq p x (signed side k) 1) → (b : Form) → After side d p (pos l *ℤ signed side k) b →
      SomeOf (λ s. Holds Integers (at_place x s) f p) (next_points side l d b)
  next_holds k true b (j, less, is) =
      some_mapped (λ s. Holds Integers (at_place x s) f p) (λ i. Exact (plus b (signed side (pos i))) l) (counted 1 d)
      (some_counted (λ i. Holds Integers (at_place x (Exact (plus b (signed side (pos i))) l)) f p) 1 d j less
      (signed side k, after_value b (signed side (pos (j + 1))) p (signed side k) l whole is, true))

  class_holds : (j : ℕ) → j < d / l → Eval (SaysFar side x l d (d / l) p whole (pos (j + 1))) f →
      SomeOf (λ s. Holds Integers (at_place x s) f p) (class_points side (d / l))
  class_holds j less true =
      let far = far_down (SaysHere side x l d (d / l) p whole) (SaysFar side x l d (d / l) p whole) (IsNear side x l d (d / l) p whole) (d / l) step_positive f low stays (pos (j + 1)) true in
      some_mapped (λ s. Holds Integers (at_place x s) f p) (λ i. Periodic (signed side (pos i)) (signed side (neg_ℤ (pos (d / l))))) (counted 1 (d / l))
      (some_counted (λ i. Holds Integers (at_place x (Periodic (signed side (pos i)) (signed side (neg_ℤ (pos (d / l)))))) f p) 1 (d / l) j less
      (far.0, λ t h. subst (λ k. TrueAt Integers f (move nat_eq p x k 1)) (class_value side (pos (j + 1)) (neg_ℤ (pos (d / l))) t p.below whole) ((here _).1 (far.1 t h))))

  -- where ex(x, f) is true some test point holds
  pub some_holds : TrueAt Integers (Ex x f) p → SomeOf (λ s. Holds Integers (at_place x s) f p) (points_with side l d x (atoms_of f))
  some_holds true =
      let number = to_number f x p true in
      let start = subst (λ k. TrueAt Integers f (move nat_eq p x k 1)) (sym (signed_signed side number.0)) number.1 in
      elim (descent (SaysHere side x l d (d / l) p whole) (SaysFar side x l d (d / l) p whole) (IsNear side x l d (d / l) p whole) (d / l) step_positive f low stays steps (signed side number.0) ((here _).0 start)) [
        | inl near ↦ some_right (λ s. Holds Integers (at_place x s) f p) (class_points side (d / l)) _
            (some_flat_map (λ s. Holds Integers (at_place x s) f p) (next_points side l d) (flat_map (atom_starts side l x) (atoms_of f))
            (some_flat_map (λ b. SomeOf (λ s. Holds Integers (at_place x s) f p) (next_points side l d b)) (atom_starts side l x) (atoms_of f)
            (some_map _ _ (atoms_of f) (λ a starts. some_map _ _ (atom_starts side l x a) (λ b after. next_holds near.0 ((here near.0).1 near.1) b after) starts)
            (some_distinct same_atom atom_same (IsNear side x l d (d / l) p whole near.0) (atoms_in f) near.2))))
        | inr class ↦ some_left (λ s. Holds Integers (at_place x s) f p) (class_points side (d / l)) _ (class_holds class.0 class.1 class.2)
      ]

class_true : (side : Side) (f : Tree) (x : ℕ) (p : Point ℕ) (n : ℕ) → SomeOf (λ s. Holds Integers (at_place x s) f p) (class_points side n) → TrueAt Integers (Ex x f) p
class_true side f x p n some =
    some_gives (λ j. Holds Integers (at_place x (Periodic (signed side (pos j)) (signed side (neg_ℤ (pos n))))) f p) (counted 1 n) (λ j holds. from_class f x p _ _ holds)
    (some_of_mapped (λ s. Holds Integers (at_place x s) f p) (λ i. Periodic (signed side (pos i)) (signed side (neg_ℤ (pos n)))) (counted 1 n) some)

next_true : (side : Side) (f : Tree) (x : ℕ) (p : Point ℕ) (l d : ℕ) (b : Form) → SomeOf (λ s. Holds Integers (at_place x s) f p) (next_points side l d b) → TrueAt Integers (Ex x f) p
next_true side f x p l d b some =
    some_gives (λ j. Holds Integers (at_place x (Exact (plus b (signed side (pos j))) l)) f p) (counted 1 d) (λ j holds. from_exact f x p _ l holds)
    (some_of_mapped (λ s. Holds Integers (at_place x s) f p) (λ i. Exact (plus b (signed side (pos i))) l) (counted 1 d) some)

-- where some test point holds ex(x, f) is true
pub holds_true : (side : Side) (x l d : ℕ) (f : Tree) (p : Point ℕ) → SomeOf (λ s. Holds Integers (at_place x s) f p) (points_with side l d x (atoms_of f)) → TrueAt Integers (Ex x f) p
holds_true side x l d f p some =
    ⊎_elim (class_true side f x p (d / l))
    (λ nexts. some_gives (λ b. SomeOf (λ s. Holds Integers (at_place x s) f p) (next_points side l d b)) (flat_map (atom_starts side l x) (atoms_of f)) (next_true side f x p l d)
    (some_of_flat_map (λ s. Holds Integers (at_place x s) f p) (next_points side l d) (flat_map (atom_starts side l x) (atoms_of f)) nexts))
    (some_either (λ s. Holds Integers (at_place x s) f p) (class_points side (d / l)) _ some)
