use Rattle.std.proofs.Common.{◌≡◌, ◌≤◌, ◌-◌, Some}
use Rattle.exact_numbers.specs.Frac.{power_steps}
use Rattle.exact_numbers.specs.Fraction.{frac_of}
use Rattle.exact_numbers.proofs.fraction.Fraction.repeated.Given as goal

-- the power so far
abbrev pub invariant-loop-done : goal.invariant-loop-done
invariant-loop-done l =
    record {
      within : l.done ≤ l.factors;
      formed : power_steps (frac_of l.self) l.done ≡ Some (frac_of l.power);
    }

abbrev pub decreases-loop-done : goal.decreases-loop-done
decreases-loop-done l = l.factors - l.done
