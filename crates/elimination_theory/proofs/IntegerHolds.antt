-- The guard and the substitution of a place of the integers are true exactly where the place makes the formula true.
use Rattle.std.proofs.Common.{◌≡◌, ℕ, suc, zero, ◌<◌, ℤ, pos, negsuc, ◌+ℤ◌, ◌*ℤ◌, neg_ℤ, ◌↔◌, arith, refl, subst, sym, ap, ◌∙◌, nat_eq}
use Rattle.std.proofs.lemmas.Int.{ints}
use Rattle.exact_numbers.specs.Divides.{Divides}
use Rattle.exact_numbers.proofs.Ring.{mul_one, mul_comm, mul_neg, neg_mul}
use Rattle.exact_numbers.proofs.Divisibility.{divides_same}
use Rattle.logic_meaning.specs.Context.{Integers}
use Rattle.logic_meaning.specs.Point.{Point, move}
use Rattle.logic_meaning.specs.Formula.{One}
use Rattle.logic_meaning.specs.Every.{Every}
use Rattle.logic_meaning.specs.Plain.{IsPlain}
use Rattle.logic_meaning.specs.Form.{Form, value, coefficient}
use Rattle.logic_meaning.specs.Atom.{Atom, Compare, Congruent, Says, form_of}
use Rattle.logic_meaning.specs.Answer.{Exact, AboveBy, BelowBy, PlusInfinity, MinusInfinity, Periodic, Holds}
use Rattle.logic_meaning.specs.Tree.{Tree, TrueAt}
use Rattle.formula_laws.proofs.EachAtom.{every_map, every_all, every_both}
use Rattle.formula_laws.proofs.Iff.{both_ways, turn_round}
use Rattle.logic_meaning.specs.declared.side.Side.{Side}
use Rattle.logic_meaning.specs.declared.side.Side.TheVariants.{Lower, Upper}
use Rattle.elimination_theory.specs.AtPlace.{at_place}
use Rattle.logic_meaning.specs.IntegersSubstitution.{integer_atom, integer_guard, is_whole}
use Rattle.elimination_theory.specs.IntegersTrees.{integer_substitution}
use Rattle.logic_meaning.specs.IntegersPoints.{signed}
use Rattle.elimination_theory.specs.IntegersPointTrees.{integer_scale}
use Rattle.elimination_theory.specs.IntegersTheorems.{IsPeriodOf, IntegerAtomIsExact, IntegerSubstitutionIsExact}
use Rattle.logic_meaning.specs.Atoms.{atoms_of}
use Rattle.elimination_theory.proofs.SomeListed.{every_of_atoms}
use Rattle.elimination_theory.proofs.IntegerEval.{Eval, Downwards, eval_map}
use Rattle.elimination_theory.proofs.IntegerPlain.{plain_eval, replaced_eval}
use Rattle.elimination_theory.proofs.IntegerDescent.{Stays, far_down, from_far_down}
use Rattle.elimination_theory.proofs.IntegerCompare.{Scales}
use Rattle.elimination_theory.proofs.IntegerAtom.{divides_is, exact_says}
use Rattle.elimination_theory.proofs.IntegerSides.{Fits, SaysHere, SaysFar, IsNear, atom_low, atom_stays, signed_signed}
use Rattle.elimination_theory.proofs.IntegerScale.{Reaches, scale_positive, scale_reaches, scales_of}
use Rattle.elimination_theory.proofs.IntegerPoints.{class_value}

-- ---- exact places

-- the guard says that e over l is a whole number
pub guard_is : (e : Form) (l : ℕ) (p : Point ℕ) → 0 < l → p.below ≡ 1 → TrueAt Integers (is_whole e l) p ↔ ((k : ℤ) × (value e p ≡ k *ℤ pos l))
guard_is e zero p h whole = absurd (omega arith)
guard_is e (suc zero) p h whole = (λ t. (value e p, sym (mul_one (value e p))), λ k. tt)
guard_is e (suc (suc n)) p h whole = divides_is (suc (suc n)) e p (value e p) whole refl

-- where e over l is the whole number k, the substitution says what the formula says at k
pub exact_substitution : (x : ℕ) (e : Form) (l : ℕ) (f : Tree) (p : Point ℕ) (k : ℤ) → 0 < l → p.below ≡ 1 → value e p ≡ k *ℤ pos l → IsPlain f →
    TrueAt Integers f (move nat_eq p x k 1) ↔ TrueAt Integers (integer_substitution x (Exact e l) f) p
exact_substitution x e l f p k positive whole is plain =
    both_ways (plain_eval Says (move nat_eq) Integers (move nat_eq p x k 1) f plain)
    (both_ways (
      eval_map _ _ f (every_all _ (λ a. (exact_says a p x e l k whole positive is).0) f),
      eval_map _ _ f (every_all _ (λ a. (exact_says a p x e l k whole positive is).1) f),
    )
    (turn_round (replaced_eval (integer_atom x (Exact e l)) Says (move nat_eq) Integers p f plain)))

exact_holds : (x : ℕ) (e : Form) (l : ℕ) (f : Tree) (p : Point ℕ) → 0 < l → IsPlain f → p.below ≡ 1 →
    Holds Integers (at_place x (Exact e l)) f p ↔ TrueAt Integers (is_whole e l) p × TrueAt Integers (integer_substitution x (Exact e l) f) p
exact_holds x e l f p positive plain whole = (
  λ h. ((guard_is e l p positive whole).1 (h.0, h.1), (exact_substitution x e l f p h.0 positive whole h.1 plain).0 h.2),
  λ h. let k = (guard_is e l p positive whole).0 h.0 in (k.0, k.1, (exact_substitution x e l f p k.0 positive whole k.1 plain).1 h.1),
)

-- ---- residue classes

class_back : (side : Side) (j s t : ℤ) (b : ℕ) → b ≡ 1 → (j +ℤ signed side s *ℤ t) *ℤ pos b ≡ signed side (signed side j +ℤ s *ℤ t)
class_back side j s t b whole = sym (class_value side (signed side j) s t b whole ∙ ap (λ z. (z +ℤ signed side s *ℤ t) *ℤ pos b) (signed_signed side j))

module _ (side : Side) (x l step : ℕ) (f : Tree) (p : Point ℕ) (whole : p.below ≡ 1) (plain : IsPlain f) (positive : 0 < l) (steps : 0 < step)
    (fits : Every (Fits l step x) f) (j : ℤ) where
  class_far : Eval (SaysFar side x l l step p whole (signed side j)) f ↔ TrueAt Integers (integer_substitution x (Periodic j (signed side (neg_ℤ (pos step)))) f) p
  class_far = both_ways (
    subst (λ i. Eval (λ a. TrueAt Integers (integer_atom x (Periodic i (signed side (neg_ℤ (pos step)))) a) p) f) (signed_signed side j),
    subst (λ i. Eval (λ a. TrueAt Integers (integer_atom x (Periodic i (signed side (neg_ℤ (pos step)))) a) p) f) (sym (signed_signed side j)),
  )
      (turn_round (replaced_eval (integer_atom x (Periodic j (signed side (neg_ℤ (pos step))))) Says (move nat_eq) Integers p f plain))

  low : Every (λ a. Downwards (λ k. SaysHere side x l l step p whole k a ↔ SaysFar side x l l step p whole k a)) f
  low = every_map _ _ (λ a fit. atom_low side x l l step p whole positive steps a fit) f fits

  stays : Every (Stays (SaysFar side x l l step p whole) step) f
  stays = every_map _ _ (λ a fit. atom_stays side x l l step p whole steps a fit) f fits

  class_here : (t : ℤ) → TrueAt Integers f (move nat_eq p x ((j +ℤ signed side (neg_ℤ (pos step)) *ℤ t) *ℤ pos p.below) 1) ↔
      Eval (SaysHere side x l l step p whole (signed side j +ℤ neg_ℤ (pos step) *ℤ t)) f
  class_here t = both_ways (
    subst (λ k. TrueAt Integers f (move nat_eq p x k 1)) (class_back side j (neg_ℤ (pos step)) t p.below whole),
    subst (λ k. TrueAt Integers f (move nat_eq p x k 1)) (sym (class_back side j (neg_ℤ (pos step)) t p.below whole)),
  )
      (plain_eval Says (move nat_eq) Integers _ f plain)

  pub class_holds : Holds Integers (at_place x (Periodic j (signed side (neg_ℤ (pos step))))) f p ↔
      TrueAt Integers (integer_substitution x (Periodic j (signed side (neg_ℤ (pos step)))) f) p
  class_holds = (
    λ h. class_far.0 (from_far_down (SaysHere side x l l step p whole) (SaysFar side x l l step p whole) (IsNear side x l l step p whole) step steps f low stays
        (signed side j) h.0 (λ t far. (class_here t).0 (h.1 t far))),
    λ true. let far = far_down (SaysHere side x l l step p whole) (SaysFar side x l l step p whole) (IsNear side x l l step p whole) step steps f low stays
        (signed side j) (class_far.1 true) in
        (far.0, λ t h. (class_here t).1 (far.1 t h)),
  )

-- ---- every place

period_is : (side : Side) (c : ℤ) (step n : ℕ) → Divides (pos n) (c *ℤ signed side (neg_ℤ (pos step))) → (w : ℤ) × (c *ℤ pos step ≡ w *ℤ pos n)
period_is Lower c step n d = (neg_ℤ d.quotient, period_lower c (pos step) (pos n) d.quotient d.exact)
  where
    period_lower : (c s n q : ℤ) → c *ℤ neg_ℤ s ≡ n *ℤ q → c *ℤ s ≡ neg_ℤ q *ℤ n
    period_lower c s n q e = let a = mul_neg c s in let b = neg_mul q n in let m = mul_comm n q in omega (arith, ints)
period_is Upper c step n d = (d.quotient, period_upper c (pos step) (pos n) d.quotient d.exact)
  where
    period_upper : (c s n q : ℤ) → c *ℤ neg_ℤ (neg_ℤ s) ≡ n *ℤ q → c *ℤ s ≡ q *ℤ n
    period_upper c s n q e = let a = mul_neg c (neg_ℤ s) in let b = mul_neg c s in let m = mul_comm n q in omega (arith, ints)

-- a period of either sign is a step of a side
fits_period : (side : Side) (l step x : ℕ) (a : Atom) → Scales l (coefficient x (form_of a)) → IsPeriodOf x (signed side (neg_ℤ (pos step))) a → Fits l step x a
fits_period side l step x (Compare r f) scales period = scales
fits_period side l step x (Congruent holds n f) scales period = period_is side (coefficient x f) step n period

module _ (x : ℕ) (f : Tree) where
  formula_scales : Every (λ a. Scales (integer_scale x f) (coefficient x (form_of a))) f
  formula_scales =
      every_map _ _ (λ a reach. scales_of (integer_scale x f) (coefficient x (form_of a)) (scale_positive x (atoms_of f)) reach) f
      (every_of_atoms (λ a. Reaches (integer_scale x f) (coefficient x (form_of a))) f (scale_reaches x (integer_scale x f) (atoms_of f) (divides_same (pos (integer_scale x f)))))

  periodic_holds : (side : Side) (step : ℕ) (p : Point ℕ) (j : ℤ) → 0 < step → Every (IsPeriodOf x (signed side (neg_ℤ (pos step)))) f → IsPlain f → p.below ≡ 1 →
      Holds Integers (at_place x (Periodic j (signed side (neg_ℤ (pos step))))) f p ↔
      TrueAt Integers (integer_guard (Periodic j (signed side (neg_ℤ (pos step))))) p × TrueAt Integers (integer_substitution x (Periodic j (signed side (neg_ℤ (pos step)))) f) p
  periodic_holds side step p j steps period plain whole =
      let fits = every_both _ _ _ (λ a scales fits. fits_period side (integer_scale x f) step x a scales fits) f formula_scales period in
      let holds = class_holds side x (integer_scale x f) step f p whole plain (scale_positive x (atoms_of f)) steps fits j in
      (λ h. (tt, holds.0 h), λ h. holds.1 h.1)

-- at every place of the integers
pub substitution_holds : IntegerSubstitutionIsExact
substitution_holds x (Exact e l) f p place suits plain whole = exact_holds x e l f p place plain whole
substitution_holds x (AboveBy e l) f p place suits plain whole = absurd place
substitution_holds x (BelowBy e l) f p place suits plain whole = absurd place
substitution_holds x PlusInfinity f p place suits plain whole = absurd place
substitution_holds x MinusInfinity f p place suits plain whole = absurd place
substitution_holds x (Periodic j (pos zero)) f p place suits plain whole = absurd (place refl)
substitution_holds x (Periodic j (pos (suc n))) f p place suits plain whole = periodic_holds x f Upper (suc n) p j (omega arith) suits plain whole
substitution_holds x (Periodic j (negsuc n)) f p place suits plain whole = periodic_holds x f Lower (suc n) p j (omega arith) suits plain whole

pub atom_holds : IntegerAtomIsExact
atom_holds x s a p place suits whole = substitution_holds x s (One a) p place suits tt whole
