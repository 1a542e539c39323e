-- Linear forms over a positive denominator, and what the steps of the fraction rule make of them.
use Rattle.std.specs.Prelude.{ℕ, zero, suc, ℤ, pos, negsuc, ◌*ℤ◌, List, [], ◌∷◌, Bool, true, false, unsigned_abs, int_div, Option, Some, None, Result, Ok, Err, if◌then◌else◌}
use Rattle.std.specs.List.{list_all}
use Rattle.std.specs.Ordering.{int_eq}
use Rattle.exact_numbers.specs.Divides.{lcm_of, content_of}
use Rattle.exact_numbers.specs.Frac.{Frac, whole_frac, inverted, power_steps}
use Rattle.logic_meaning.specs.Context.{Context, Fields, Integers}
use Rattle.logic_meaning.specs.Form.{Form, Term, coefficients, scale, combine}
use Rattle.logic_meaning.specs.Sorted.{gathered}
use Rattle.logic_meaning.specs.Limits.{is_within}
use Rattle.logic_meaning.specs.Reduction.{quotient}
use Rattle.language_meaning.specs.declared.tree.Literal.{Literal}
use Rattle.language_meaning.specs.declared.tree.Literal.TheVariants.{Fits, Past}
use Rattle.language_meaning.specs.Trees.{TermTree}
use Rattle.language_meaning.specs.FractionRule.{Steps, by_rule, ◌>>=◌}

-- a form over a denominator
pub record RationalForm : Type 0 where
  pub form : Form
  pub denominator : ℤ

-- why a term has no form: a number that is written or formed passes the limit, a product or power of names, a quotient
-- that is not allowed
pub data Missing : Type 0 where
  Overflow Nonlinear Division : Missing

-- ---- numbers

-- the constant and the coefficients
abbrev pub numbers_of : Form → List ℤ
numbers_of f = f.constant ∷ coefficients f.terms

-- a number that is formed
unfoldable pub formed_number : ℤ → Result ℤ Missing
formed_number z = if is_within z then Ok z else Err Overflow

-- a form whose numbers are formed
unfoldable pub formed_form : Form → Result Form Missing
formed_form f = if list_all is_within (numbers_of f) then Ok f else Err Overflow

-- all numbers divided by their greatest common divisor
unfoldable pub lowest_form : Form → ℤ → RationalForm
lowest_form f d = record { form = quotient f (content_of (d ∷ numbers_of f)); denominator = int_div d (content_of (d ∷ numbers_of f)) }

-- ---- constants

-- no name stands among the terms
abbrev pub is_empty : List Term → Bool
is_empty [] = true
is_empty (t ∷ ts) = false

-- the form is a number alone: it has no terms
abbrev pub is_constant : RationalForm → Bool
is_constant p = is_empty p.form.terms

-- a fraction as a form
abbrev pub constant_form : Frac → RationalForm
constant_form v = record { form = record { terms = []; constant = v.numerator }; denominator = v.denominator }

-- the fraction that a constant form is
abbrev pub constant_of : RationalForm → Frac
constant_of p = record { numerator = p.form.constant; denominator = p.denominator }

-- ---- steps

-- a sum: both are multiplied up to the least common multiple of the denominators, added place by place, and divided
unfoldable pub sum_of_forms : RationalForm → RationalForm → Result RationalForm Missing
sum_of_forms p q =
    formed_number (lcm_of p.denominator q.denominator) >>= λ m.
    formed_form (scale (int_div m p.denominator) p.form) >>= λ f.
    formed_form (scale (int_div m q.denominator) q.form) >>= λ g.
    formed_form (gathered (combine (pos 1) f (pos 1) g)) >>= λ sum.
    Ok (lowest_form sum m)

-- a product by a constant: all numbers are multiplied by its numerator, the denominators are multiplied, and all is divided
unfoldable pub multiple_of_form : RationalForm → Frac → Result RationalForm Missing
multiple_of_form p k =
    formed_form (gathered (scale k.numerator p.form)) >>= λ f.
    formed_number (p.denominator *ℤ k.denominator) >>= λ d.
    Ok (lowest_form f d)

-- a product, of which one factor is constant
unfoldable pub product_of_forms : RationalForm → RationalForm → Result RationalForm Missing
product_of_forms p q =
    if is_constant q then multiple_of_form p (constant_of q)
    else if is_constant p then multiple_of_form q (constant_of p)
    else Err Nonlinear

-- the product with the inverse of a constant other than 0; over the integers there are no quotients
unfoldable pub quotient_of_forms : Context → RationalForm → RationalForm → Result RationalForm Missing
quotient_of_forms Integers p q = Err Division
quotient_of_forms Fields p q =
    if is_constant q then (if int_eq q.form.constant (pos 0) then Err Division else multiple_of_form p (inverted (constant_of q))) else Err Division

-- the powers 0 and 1 of what is not constant
abbrev pub small_power : RationalForm → ℕ → Result RationalForm Missing
small_power p zero = Ok (constant_form (whole_frac (pos 1)))
small_power p (suc zero) = Ok p
small_power p (suc (suc n)) = Err Nonlinear

-- a fraction that the steps of a power form
abbrev pub as_constant : Option Frac → Result RationalForm Missing
as_constant None = Err Overflow
as_constant (Some v) = Ok (constant_form v)

-- a power: of a constant the repeated product
unfoldable pub power_of_form : RationalForm → Literal → Result RationalForm Missing
power_of_form p (Fits n) = if is_constant p then as_constant (power_steps (constant_of p) (unsigned_abs n)) else small_power p (unsigned_abs n)
power_of_form p Past = if is_constant p then Err Overflow else Err Nonlinear

-- the other sign
abbrev pub opposite_form : RationalForm → RationalForm
opposite_form p = record { form = scale (negsuc 0) p.form; denominator = p.denominator }

-- a literal
abbrev pub literal_form : Literal → Result RationalForm Missing
literal_form (Fits n) = Ok (constant_form (whole_frac n))
literal_form Past = Err Overflow

-- the variable of this number
abbrev pub variable_form : ℕ → RationalForm
variable_form x = record { form = record { terms = record { times = pos 1; name = x } ∷ []; constant = pos 0 }; denominator = pos 1 }

-- the forms in a theory, where each name has a number
abbrev pub forms : Context → (List ℕ → ℕ) → Steps RationalForm Missing
forms c number = record {
  number = literal_form;
  name = λ x. Ok (variable_form (number x));
  empty_sum = constant_form (whole_frac (pos 0));
  empty_product = constant_form (whole_frac (pos 1));
  plus = sum_of_forms;
  times = product_of_forms;
  over = quotient_of_forms c;
  power = power_of_form;
  minus = λ p. Ok (opposite_form p);
}

-- the form of a term, or why it has none
abbrev pub formed : Context → (List ℕ → ℕ) → TermTree → Result RationalForm Missing
formed c number t = by_rule (forms c number) t

-- the form of the difference of two terms
abbrev pub formed_difference : Context → (List ℕ → ℕ) → TermTree → TermTree → Result RationalForm Missing
formed_difference c number s t = formed c number s >>= λ p. formed c number t >>= λ q. sum_of_forms p (opposite_form q)
