-- What is known of a term once it is read, and what each step makes of what was read of its parts.
use Rattle.std.specs.Prelude.{◌≡◌, ◌↔◌, ◌⊎◌, ℕ, List, Bool, true, false, not, ◌&&◌, ◌||◌, unsigned_abs, nat_lt, Option, Some, None, IsNone, option_map, MatchOption, Result, Ok, IsTrue, pos}
use Rattle.std.specs.declared.alloc.AllocError.{AllocError}
use Rattle.logic_meaning.specs.Context.{Context, Fields, Integers}
use Rattle.language_meaning.specs.declared.tree.Literal.{Literal}
use Rattle.language_meaning.specs.declared.tree.Literal.TheVariants.{Fits, Past}
use Rattle.language_meaning.specs.Trees.{TermTree}
use Rattle.language_meaning.specs.RationalForms.{RationalForm, Missing, is_constant, constant_form, formed, formed_difference, sum_of_forms, product_of_forms, quotient_of_forms, power_of_form, opposite_form}
use Rattle.language_meaning.specs.Causes.{HasNonlinear, HasForbidden}
use Rattle.written_atoms.specs.Rational.{rational_of, there, is_divisor, Shows}
use Rattle.written_atoms.specs.declared.rational.Rational.{Rational}
use Rattle.exact_numbers.specs.Frac.{whole_frac}
use Rattle.written_atoms.specs.declared.term.ReadTerm.{ReadTerm}
use Rattle.written_atoms.specs.declared.term.ReadSum.{ReadSum}
use Rattle.written_atoms.specs.Sum.{ShowsSum, IsSummed}

-- there is a value, and it has P
abbrev pub Given : Result ReadTerm AllocError → (ReadTerm → Type 0) → Type 0
Given r P = (a : ReadTerm) × (r ≡ Ok a) × P a

-- its form and the causes that stand in it are told exactly
pub record IsTermRead (c : Context) (number : List ℕ → ℕ) (t : TermTree) (r : ReadTerm) : Type 0 where
  pub form : Shows r.form (formed c number t)
  pub nonlinear : IsTrue r.nonlinear ↔ HasNonlinear c number t
  pub division : IsTrue r.division ↔ HasForbidden c number t

-- the same of the difference of two terms
pub record IsDifferenceRead (c : Context) (number : List ℕ → ℕ) (s t : TermTree) (r : ReadTerm) : Type 0 where
  pub form : Shows r.form (formed_difference c number s t)
  pub nonlinear : IsTrue r.nonlinear ↔ (HasNonlinear c number s ⊎ HasNonlinear c number t)
  pub division : IsTrue r.division ↔ (HasForbidden c number s ⊎ HasForbidden c number t)

-- ---- parts

-- the form is there and not constant
abbrev pub varies : Option Rational → Bool
varies None = false
varies (Some v) = not (is_constant (rational_of v))

-- the form is there and no constant other than 0
abbrev pub is_no_divisor : Option Rational → Bool
is_no_divisor None = false
is_no_divisor (Some v) = not (is_divisor (rational_of v))

-- nothing may be divided by the form, or by what has no form
abbrev pub is_forbidden : Context → Option Rational → Bool
is_forbidden Fields o = is_no_divisor o
is_forbidden Integers o = true

abbrev pub is_above_one : Literal → Bool
is_above_one (Fits n) = nat_lt 1 (unsigned_abs n)
is_above_one Past = true

-- ---- steps

-- the form of a step on two forms, which is there where both are and the step gives one
abbrev pub StepGives : (RationalForm → RationalForm → Result RationalForm Missing) → Option Rational → Option Rational → Option Rational → Type 0
StepGives step (Some v) (Some w) o = option_map rational_of o ≡ there (step (rational_of v) (rational_of w))
StepGives step (Some v) None o = IsNone o
StepGives step None b o = IsNone o

pub record IsPlus (a b r : ReadTerm) : Type 0 where
  pub form : StepGives sum_of_forms a.form b.form r.form
  pub nonlinear : r.nonlinear ≡ (a.nonlinear || b.nonlinear)
  pub division : r.division ≡ (a.division || b.division)

pub record IsTimes (a b r : ReadTerm) : Type 0 where
  pub form : StepGives product_of_forms a.form b.form r.form
  pub nonlinear : r.nonlinear ≡ (a.nonlinear || b.nonlinear || (varies a.form && varies b.form))
  pub division : r.division ≡ (a.division || b.division)

pub record IsOver (c : Context) (a b r : ReadTerm) : Type 0 where
  pub form : StepGives (quotient_of_forms c) a.form b.form r.form
  pub nonlinear : r.nonlinear ≡ (a.nonlinear || b.nonlinear)
  pub division : r.division ≡ (a.division || b.division || is_forbidden c b.form)

pub record IsPower (a : ReadTerm) (n : Literal) (r : ReadTerm) : Type 0 where
  pub form : MatchOption a.form (IsNone r.form) (λ v. option_map rational_of r.form ≡ there (power_of_form (rational_of v) n))
  pub nonlinear : r.nonlinear ≡ (a.nonlinear || (varies a.form && is_above_one n))
  pub division : r.division ≡ a.division

pub record IsOpposite (a r : ReadTerm) : Type 0 where
  pub form : MatchOption a.form (IsNone r.form) (λ v. option_map rational_of r.form ≡ Some (opposite_form (rational_of v)))
  pub nonlinear : r.nonlinear ≡ a.nonlinear
  pub division : r.division ≡ a.division

-- ---- sums

-- nothing is summed yet
pub record IsNoSum (s : ReadSum) : Type 0 where
  pub total : ShowsSum s.total (Ok (constant_form (whole_frac (pos 0))))
  pub nonlinear : s.nonlinear ≡ false
  pub division : s.division ≡ false

pub record IsSumPlus (old : ReadSum) (part : ReadTerm) (new : ReadSum) : Type 0 where
  pub total : IsSummed old.total part.form new.total
  pub nonlinear : new.nonlinear ≡ (old.nonlinear || part.nonlinear)
  pub division : new.division ≡ (old.division || part.division)

-- the term has the form and the causes of the sum
pub record IsWholeSum (s : ReadSum) (r : ReadTerm) : Type 0 where
  pub form : (p : Result RationalForm Missing) → ShowsSum s.total p → Shows r.form p
  pub nonlinear : r.nonlinear ≡ s.nonlinear
  pub division : r.division ≡ s.division
