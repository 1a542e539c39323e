-- The least value of a name at which a formula without quantifiers is true, calculated: all other names are 0.
use Rattle.std.specs.Prelude.{ℕ, suc, zero, ℤ, pos, negsuc, ◌+ℤ◌, ◌*ℤ◌, Bool, true, false, not, ◌&&◌, ◌||◌, List, filter, Option, Some, None, if◌then◌else◌}
use Rattle.std.specs.declared.cmp.Ordering.{Ordering}
use Rattle.std.specs.declared.cmp.Ordering.TheVariants.{Less, Greater}
use Rattle.std.specs.Ordering.{int_cmp}
use Rattle.exact_numbers.specs.Frac.{Frac}
use Rattle.logic_meaning.specs.Form.{coefficient}
use Rattle.logic_meaning.specs.Formula.{Yes, No, One, Not, And, Or, Impl, Repl, Equiv, Ex, All, none, also}
use Rattle.logic_meaning.specs.Atom.{Atom, Compare, Congruent}
use Rattle.logic_meaning.specs.Tree.{Tree, Trees}
use Rattle.logic_meaning.specs.Atoms.{atoms_in}
use Rattle.logic_meaning.specs.NormalForm.{holds}
use Rattle.logic_meaning.specs.Values.{origin}
use Rattle.logic_meaning.specs.Calculated.{critical_values, least_with}
use Rattle.logic_meaning.specs.Target.{IsInfeasible, IsUnbounded}
use Rattle.linear_theory.specs.WeakTargets.{IsTrueFarBelow}
use Rattle.logic_meaning.specs.LeastFraction.{IsLeastFraction}

-- ---- truth

-- whether a * z + c relation 0 is true where z is the fraction
abbrev pub is_true_at : ℕ → Frac → Atom → Bool
is_true_at z v (Compare r f) = holds r (int_cmp (coefficient z f *ℤ v.numerator +ℤ f.constant *ℤ v.denominator) (pos 0))
is_true_at z v (Congruent told n f) = false

-- how a * z + c is to 0 where z is below all numbers
abbrev pub far_order : ℤ → ℤ → Ordering
far_order (pos zero) c = int_cmp c (pos 0)
far_order (pos (suc n)) c = Less
far_order (negsuc n) c = Greater

-- whether a * z + c relation 0 is true there
abbrev pub is_true_far : ℕ → Atom → Bool
is_true_far z (Compare r f) = holds r (far_order (coefficient z f) f.constant)
is_true_far z (Congruent told n f) = false

-- the truth of a formula without quantifiers, from that of its atoms
module _ (told : Atom → Bool) where
  abbrev mutual
    pub truth_by : Tree → Bool
    truth_by Yes = true
    truth_by No = false
    truth_by (One a) = told a
    truth_by (Not f) = not (truth_by f)
    truth_by (And fs) = all_by fs
    truth_by (Or fs) = some_by fs
    truth_by (Impl f g) = not (truth_by f) || truth_by g
    truth_by (Repl f g) = truth_by f || not (truth_by g)
    truth_by (Equiv f g) = (truth_by f && truth_by g) || (not (truth_by f) && not (truth_by g))
    truth_by (Ex x f) = false
    truth_by (All x f) = false

    pub all_by : Trees → Bool
    all_by none = true
    all_by (also f fs) = truth_by f && all_by fs

    pub some_by : Trees → Bool
    some_by none = false
    some_by (also f fs) = truth_by f || some_by fs

-- ---- the answer

pub data Found : Type 0 where
  Infeasible : Found
  Unbounded : Found
  At : Frac → Found

-- the least number, if there is one
abbrev pub found : Option Frac → Found
found None = Infeasible
found (Some v) = At v

-- the critical values at which the formula is true
abbrev pub true_values : ℕ → Tree → List Frac
true_values z f = filter (λ v. truth_by (is_true_at z v) f) (critical_values z (atoms_in f))

-- Unbounded where the formula is true far below; else the least critical value at which it is true
abbrev pub least_of : ℕ → Tree → Found
least_of z f = if truth_by (is_true_far z) f then Unbounded else found (least_with None (true_values z f))

-- ---- what it says

abbrev pub IsAnswer : ℕ → Tree → Found → Type 0
IsAnswer z f Infeasible = IsInfeasible z f origin
IsAnswer z f Unbounded = IsTrueFarBelow z f origin × IsUnbounded z f origin
IsAnswer z f (At v) = IsLeastFraction z f v
