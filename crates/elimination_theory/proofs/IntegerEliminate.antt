-- Each listed test point of the integers is one of the integers for each atom; so ex(x, f) is f with the points put in.
use Rattle.std.proofs.Common.{◌≡◌, ℕ, ◌/◌, ◌<◌, ℤ, pos, ◌*ℤ◌, neg_ℤ, arith, List}
use Rattle.std.proofs.lemmas.Int.{ints}
use Rattle.exact_numbers.specs.Divides.{Divides}
use Rattle.exact_numbers.proofs.Ring.{mul_neg, mul_comm}
use Rattle.logic_meaning.specs.Some.{EachOf}
use Rattle.logic_meaning.specs.Context.{Integers}
use Rattle.logic_meaning.specs.Every.{Every}
use Rattle.logic_meaning.specs.Plain.{IsPlain}
use Rattle.logic_meaning.specs.Form.{coefficient, plus}
use Rattle.logic_meaning.specs.Atom.{Atom, Compare, Congruent}
use Rattle.logic_meaning.specs.Answer.{Place, Exact, Periodic, Holds, same_place}
use Rattle.logic_meaning.specs.Tree.{Tree}
use Rattle.formula_laws.specs.Equivalence.{InContext}
use Rattle.formula_laws.proofs.EachAtom.{every_map, every_all}
use Rattle.elimination_theory.proofs.Simple.{substitution_plain}
use Rattle.formula_laws.proofs.Iff.{both_ways}
use Rattle.logic_meaning.specs.declared.side.Side.{Side}
use Rattle.logic_meaning.specs.declared.side.Side.TheVariants.{Lower, Upper}
use Rattle.logic_meaning.specs.Atoms.{atoms_of}
use Rattle.elimination_theory.specs.AtPlace.{at_place}
use Rattle.elimination_theory.specs.IntegersTrees.{guarded_substitution}
use Rattle.elimination_theory.specs.Elimination.{integer_elimination}
use Rattle.logic_meaning.specs.IntegersPoints.{signed, counted, class_points, next_points, points_with}
use Rattle.elimination_theory.specs.IntegersPointTrees.{integer_scale, integer_span, integer_points}
use Rattle.elimination_theory.specs.IntegersTheorems.{IsPeriodOf, Suits, IntegerTestPointsSuit, IntegerEliminationIsExact}
use Rattle.logic_meaning.specs.IntegerPlace.{IsIntegerPlace}
use Rattle.elimination_theory.proofs.FieldsEliminated.{some_place, trees_plain}
use Rattle.elimination_theory.proofs.SomeListed.{each_append, each_mapped, each_flat_map, each_distinct, each_among}
use Rattle.elimination_theory.proofs.IntegerSides.{Fits}
use Rattle.elimination_theory.proofs.IntegerSuffice.{formula_spanned, formula_fits, integer_points_suffice}
use Rattle.elimination_theory.proofs.IntegerHolds.{substitution_holds}

-- ---- the points suit

divides_period : (side : Side) (c : ℤ) (step n : ℕ) → (w : ℤ) × (c *ℤ pos step ≡ w *ℤ pos n) → Divides (pos n) (c *ℤ signed side (neg_ℤ (pos step)))
divides_period Lower c step n (w, e) = record { quotient = neg_ℤ w; exact = down c (pos step) w (pos n) e }
  where
    down : (c s w n : ℤ) → c *ℤ s ≡ w *ℤ n → c *ℤ neg_ℤ s ≡ n *ℤ neg_ℤ w
    down c s w n e = let a = mul_neg c s in let b = mul_neg n w in let m = mul_comm n w in omega (arith, ints)
divides_period Upper c step n (w, e) = record { quotient = w; exact = up c (pos step) w (pos n) e }
  where
    up : (c s w n : ℤ) → c *ℤ s ≡ w *ℤ n → c *ℤ neg_ℤ (neg_ℤ s) ≡ n *ℤ w
    up c s w n e = let a = mul_neg c (neg_ℤ s) in let b = mul_neg c s in let m = mul_comm n w in omega (arith, ints)

atom_period : (side : Side) (l step x : ℕ) (a : Atom) → Fits l step x a → IsPeriodOf x (signed side (neg_ℤ (pos step))) a
atom_period side l step x (Compare r f) fits = tt
atom_period side l step x (Congruent holds n f) fits = divides_period side (coefficient x f) step n fits

period_not_zero : (side : Side) (step : ℕ) → 0 < step → ¬ (signed side (neg_ℤ (pos step)) ≡ pos 0)
period_not_zero Lower step h = λ (e : neg_ℤ (pos step) ≡ pos 0). omega (arith, ints)
period_not_zero Upper step h = λ (e : neg_ℤ (neg_ℤ (pos step)) ≡ pos 0). omega (arith, ints)

-- the place is one of the integers, for each atom of f
abbrev IsFor : ℕ → Tree → Place → Type 0
IsFor x f s = IsIntegerPlace s × Every (Suits x s) f

points_are_for : (side : Side) (x l d : ℕ) (f : Tree) (atoms : List Atom) → 0 < l → 0 < d / l → Every (Fits l (d / l) x) f → EachOf (IsFor x f) (points_with side l d x atoms)
points_are_for side x l d f atoms scale steps fits =
    each_append (IsFor x f) (class_points side (d / l)) _
    (each_mapped (IsFor x f) (λ j. Periodic (signed side (pos j)) (signed side (neg_ℤ (pos (d / l))))) (counted 1 (d / l))
    (λ j. (period_not_zero side (d / l) steps, every_map _ _ (λ a fit. atom_period side l (d / l) x a fit) f fits)))
    (each_flat_map (IsFor x f) (next_points side l d) _
    (λ b. each_mapped (IsFor x f) (λ j. Exact (plus b (signed side (pos j))) l) (counted 1 d) (λ j. (scale, every_all _ (λ a. tt) f))))

listed_are_for : (side : Side) (x : ℕ) (f : Tree) → InContext Integers f → EachOf (IsFor x f) (integer_points side x f)
listed_are_for side x f inside =
    let s = formula_spanned x f inside in
    each_distinct same_place (IsFor x f) (points_with side (integer_scale x f) (integer_span x f) x (atoms_of f))
    (points_are_for side x (integer_scale x f) (integer_span x f) f (atoms_of f) s.scale s.period (formula_fits x f inside))

pub points_suit : IntegerTestPointsSuit
points_suit side x f s inside among = each_among (IsFor x f) (integer_points side x f) s (listed_are_for side x f inside) among

pub integer_elimination_exact : IntegerEliminationIsExact
integer_elimination_exact side x f plain inside p whole =
    both_ways (integer_points_suffice side x f p plain inside whole)
    (some_place Integers (λ s. guarded_substitution x s f) (λ s. Holds Integers (at_place x s) f p) p (integer_points side x f)
    (λ s among. let suits = points_suit side x f s inside among in
    let holds = substitution_holds x s f p suits.0 suits.1 plain whole in
    (λ h. let t = holds.0 h in (t.0, (t.1, tt)), λ t. holds.1 (t.0, t.1.0))))

-- the disjunction is built by and and or, from atoms of the integers
pub integer_elimination_tree : (side : Side) (x : ℕ) (f : Tree) → IsPlain f → InContext Integers f → IsPlain (integer_elimination side x f) × InContext Integers (integer_elimination side x f)
integer_elimination_tree side x f plain inside =
    trees_plain Integers (λ s. guarded_substitution x s f) (integer_points side x f)
    (λ s among. substitution_plain Integers x s f (points_suit side x f s inside among).0 plain inside)
