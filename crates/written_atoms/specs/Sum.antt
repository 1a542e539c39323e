-- Sums kept by name over one denominator, as multiples of the forms that the fraction rule has.
use Rattle.std.specs.Prelude.{◌≡◌, ℕ, ℤ, pos, ◌+ℤ◌, ◌*ℤ◌, ◌<ℤ◌, Option, None, Result, Ok}
use Rattle.logic_meaning.specs.Combining.{AddWithin}
use Rattle.logic_meaning.specs.Form.{Form, coefficient}
use Rattle.logic_meaning.specs.Sorted.{IsSorted}
use Rattle.language_meaning.specs.RationalForms.{RationalForm, sum_of_forms}
use Rattle.resolved_formulas.specs.LowestForms.{IsLowestForm}
use Rattle.language_meaning.specs.RationalForms as rule
use Rattle.language_meaning.specs.FractionRule.{◌>>=◌}
use Rattle.written_atoms.specs.declared.rational.Rational.{Rational}
use Rattle.written_atoms.specs.declared.sum.WholeSum.{WholeSum}
use Rattle.written_atoms.specs.declared.sum.SharedSum.{SharedSum}
use Rattle.written_atoms.specs.declared.sum.RunningSum.{RunningSum}
use Rattle.written_atoms.specs.declared.sum.RunningSum.TheVariants.{Known, Missing}
use Rattle.written_atoms.specs.Entries.{coefficient_at}
use Rattle.written_atoms.specs.Rational.{Shows, there}

-- the sorted form of these coefficients and this constant
pub record IsSumOf (s : WholeSum) (f : Form) : Type 0 where
  pub sorted : IsSorted f
  pub coefficients : (x : ℕ) → coefficient x f ≡ coefficient_at s.coefficients.entries x
  pub constant : f.constant ≡ s.constant

-- k times the form, and its sum with the old one, is within the limit at each place
pub record AddsWithin (old : WholeSum) (k : ℤ) (f : Form) : Type 0 where
  pub places : (x : ℕ) → AddWithin (coefficient_at old.coefficients.entries x) (k *ℤ coefficient x f)
  pub constants : AddWithin old.constant (k *ℤ f.constant)

-- the new sum is the old one and k times the form, place by place
pub record IsAdded (old : WholeSum) (k : ℤ) (f : Form) (new : WholeSum) : Type 0 where
  pub coefficients : (x : ℕ) → coefficient_at new.coefficients.entries x ≡ coefficient_at old.coefficients.entries x +ℤ k *ℤ coefficient x f
  pub constant : new.constant ≡ old.constant +ℤ k *ℤ f.constant

-- the new sum is k times the old one
pub record IsMultiple (k : ℤ) (old new : WholeSum) : Type 0 where
  pub coefficients : (x : ℕ) → coefficient_at new.coefficients.entries x ≡ k *ℤ coefficient_at old.coefficients.entries x
  pub constant : new.constant ≡ k *ℤ old.constant

-- the sum and its denominator are those of a form in lowest terms, times one positive factor
pub record IsMultipleOf (v : RationalForm) (s : SharedSum) : Type 0 where
  pub factor : ℤ
  pub positive : pos 0 <ℤ factor
  pub coefficients : (x : ℕ) → coefficient_at s.numerators.coefficients.entries x ≡ factor *ℤ coefficient x v.form
  pub constant : s.numerators.constant ≡ factor *ℤ v.form.constant
  pub denominator : s.denominator ≡ factor *ℤ v.denominator
  pub sorted : IsSorted v.form
  pub lowest : IsLowestForm v

-- the new sum is a multiple of what the old one is
abbrev pub StaysMultiple : SharedSum → SharedSum → Type 0
StaysMultiple old new = (v : RationalForm) → IsMultipleOf v old → IsMultipleOf v new

-- the program has a sum exactly where the rule gives one, and it is a multiple of that one
abbrev pub ShowsSum : RunningSum → Result RationalForm rule.Missing → Type 0
ShowsSum (Known s) r = (v : RationalForm) × (r ≡ Ok v) × IsMultipleOf v s
ShowsSum Missing r = there r ≡ None

-- the new sum is that of the old one and the part, by the rule
abbrev pub IsSummed : RunningSum → Option Rational → RunningSum → Type 0
IsSummed old part new = (p q : Result RationalForm rule.Missing) → ShowsSum old p → Shows part q → ShowsSum new (p >>= λ v. q >>= λ w. sum_of_forms v w)
