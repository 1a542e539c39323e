-- The program's forms over a denominator, and the steps of the fraction rule on them.
use Rattle.std.specs.Prelude.{pos, Bool, not, ◌&&◌, Option, Some, None, option_map, Result, Ok, Err, ◌≡◌}
use Rattle.std.specs.Ordering.{int_eq}
use Rattle.language_meaning.specs.RationalForms.{RationalForm, Missing, is_constant}
use Rattle.written_atoms.specs.declared.rational.Rational.{Rational}

-- the form over its denominator
abbrev pub rational_of : Rational → RationalForm
rational_of r = record { form = r.form; denominator = r.denominator }

-- what is there, if it is
abbrev pub there : {A : Type 0} → Result A Missing → Option A
there (Ok v) = Some v
there (Err e) = None

-- the form is a constant other than 0
abbrev pub is_divisor : RationalForm → Bool
is_divisor p = is_constant p && not (int_eq p.form.constant (pos 0))

-- the program has a form exactly where the rule gives one, and it is that one
abbrev pub Shows : Option Rational → Result RationalForm Missing → Type 0
Shows o r = option_map rational_of o ≡ there r
