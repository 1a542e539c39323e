-- The truth of an atom where a name has a value and all others are 0.
use Rattle.std.specs.Prelude.{ℕ, Bool}
use Rattle.exact_numbers.specs.Fraction.{frac_of}
use Rattle.logic_meaning.specs.Atom.{Atom}
use Rattle.linear_theory.specs.Answer.{is_true_at, is_true_far}
use Rattle.linear_opt.specs.declared.atoms.Value.{Value}
use Rattle.linear_opt.specs.declared.atoms.Value.TheVariants.{FarBelow, At}

-- whether the atom is true there
abbrev pub told : ℕ → Value → Atom → Bool
told z FarBelow = is_true_far z
told z (At number) = is_true_at z (frac_of number)
