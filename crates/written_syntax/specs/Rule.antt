-- What is calculated: the fraction rule along terms and formulas, from left to right, and where it stops.
use Rattle.std.specs.Ordering.{int_eq}
use Rattle.std.specs.Prelude.{ℤ, pos, unsigned_abs, int_lt, Bool, true, false, ◌&&◌, ◌||◌, not, Option, Some, None, Result, Ok, Err, if◌then◌else◌}
use Rattle.exact_numbers.specs.Frac.{Frac, whole_frac, negated, inverted, lowest, sum_step, product_step, power_steps}
use Rattle.exact_numbers.specs.Divides.{residue_of}
use Rattle.logic_meaning.specs.Formula.{Formula, Yes, No, One, Not, And, Or, Impl, Repl, Equiv, Ex, All}
use Rattle.logic_meaning.specs.Formula as plain
use Rattle.language_meaning.specs.declared.tree.Literal.{Literal}
use Rattle.language_meaning.specs.declared.tree.Literal.TheVariants.{Fits, Past}
use Rattle.language_meaning.specs.declared.tree.Relation.{Relation}
use Rattle.language_meaning.specs.declared.tree.Relation.TheVariants.{Equal, Differs, Less, AtMost, Greater, AtLeast}
use Rattle.written_syntax.specs.declared.value.EvalError.{EvalError}
use Rattle.written_syntax.specs.declared.value.EvalError.TheVariants.{ZeroDivisor, Overflow}
use Rattle.language_meaning.specs.Trees.{TermTree, TermTrees, Number, Named, Sum, Product, Quotient, Power, Negative, none, also, Compare, Cong, Ncong, Bound, FormulaTree, FormulaTrees}
use Rattle.language_meaning.specs.Value.{NamedPoint}

-- the second calculation on the result of the first, which stops both where it stops
infixl 10 ◌>>=◌
abbrev pub ◌>>=◌ : {A B : Type 0} → Result A EvalError → (A → Result B EvalError) → Result B EvalError
(Ok x) >>= f = f x
(Err e) >>= f = Err e

-- a step of the rule that forms no number past the limit
abbrev pub stepped : Option Frac → Result Frac EvalError
stepped None = Err Overflow
stepped (Some v) = Ok v

-- the value of a literal, which stops the calculation above the limit
abbrev pub literal_fraction : Literal → Result Frac EvalError
literal_fraction (Fits n) = Ok (whole_frac n)
literal_fraction Past = Err Overflow

-- the product with the inverse, which stops at the divisor 0
abbrev pub quotient_step : Frac → Frac → Result Frac EvalError
quotient_step v w = if int_eq w.numerator (pos 0) then Err ZeroDivisor else stepped (product_step v (inverted w))

-- the repeated product
abbrev pub power_step : Frac → Literal → Result Frac EvalError
power_step v (Fits n) = stepped (power_steps v (unsigned_abs n))
power_step v Past = Err Overflow

abbrev mutual
  -- the value of a term in lowest terms, or what stops its calculation first
  pub calculated : TermTree → NamedPoint → Result Frac EvalError
  calculated (Number n) p = literal_fraction n
  calculated (Named x) p = Ok (lowest (p.at x) (pos p.below))
  calculated (Sum ts) p = added (whole_frac (pos 0)) ts p
  calculated (Product ts) p = multiplied (whole_frac (pos 1)) ts p
  calculated (Quotient s t) p = calculated s p >>= λ v. calculated t p >>= λ w. quotient_step v w
  calculated (Power t n) p = calculated t p >>= λ v. power_step v n
  calculated (Negative t) p = calculated t p >>= λ v. Ok (negated v)

  -- the members added to what came before them, one after another
  pub added : Frac → TermTrees → NamedPoint → Result Frac EvalError
  added total none p = Ok total
  added total (also t ts) p = calculated t p >>= λ v. stepped (sum_step total v) >>= λ sum. added sum ts p

  -- the members multiplied with what came before them, one after another
  pub multiplied : Frac → TermTrees → NamedPoint → Result Frac EvalError
  multiplied total none p = Ok total
  multiplied total (also t ts) p = calculated t p >>= λ v. stepped (product_step total v) >>= λ product. multiplied product ts p

-- the number has the relation to 0
abbrev pub test : Relation → ℤ → Bool
test Equal n = int_eq n (pos 0)
test Differs n = not (int_eq n (pos 0))
test Less n = int_lt n (pos 0)
test AtMost n = not (int_lt (pos 0) n)
test Greater n = int_lt (pos 0) n
test AtLeast n = not (int_lt n (pos 0))

-- the difference of two terms
abbrev pub difference : TermTree → TermTree → NamedPoint → Result Frac EvalError
difference s t p = calculated s p >>= λ v. calculated t p >>= λ w. stepped (sum_step v (negated w))

-- a fraction in lowest terms is a multiple of a whole number that is not 0
abbrev pub is_multiple : Frac → Frac → Bool
is_multiple v m = int_eq v.denominator (pos 1) && int_eq (residue_of v.numerator (pos (unsigned_abs m.numerator))) (pos 0)

-- whether the difference is a multiple of the modulus
abbrev pub congruence : TermTree → TermTree → TermTree → NamedPoint → Result Bool EvalError
congruence s t m p = difference s t p >>= λ d. calculated m p >>= λ modulus. Ok (is_multiple d modulus)

abbrev mutual
  -- The truth of a formula without quantifiers and bound names, or what stops its calculation first. Each comparison
  -- is calculated, from left to right.
  pub calculated_truth : FormulaTree → NamedPoint → Result Bool EvalError
  calculated_truth Yes p = Ok true
  calculated_truth No p = Ok false
  calculated_truth (One (Compare rel s t)) p = difference s t p >>= λ d. Ok (test rel d.numerator)
  calculated_truth (One (Cong s t m)) p = congruence s t m p
  calculated_truth (One (Ncong s t m)) p = congruence s t m p >>= λ b. Ok (not b)
  calculated_truth (One (Bound x)) p = Ok false
  calculated_truth (Not f) p = calculated_truth f p >>= λ a. Ok (not a)
  calculated_truth (And fs) p = calculated_all true fs p
  calculated_truth (Or fs) p = calculated_some false fs p
  calculated_truth (Impl f g) p = calculated_truth f p >>= λ a. calculated_truth g p >>= λ b. Ok (not a || b)
  calculated_truth (Repl f g) p = calculated_truth f p >>= λ a. calculated_truth g p >>= λ b. Ok (not b || a)
  calculated_truth (Equiv f g) p = calculated_truth f p >>= λ a. calculated_truth g p >>= λ b. Ok ((not a || b) && (not b || a))
  calculated_truth (Ex x f) p = Ok false
  calculated_truth (All x f) p = Ok false

  -- whether all members are true, and what came before them
  pub calculated_all : Bool → FormulaTrees → NamedPoint → Result Bool EvalError
  calculated_all sofar plain.none p = Ok sofar
  calculated_all sofar (plain.also f fs) p = calculated_truth f p >>= λ a. calculated_all (sofar && a) fs p

  -- whether some member is true, or what came before them
  pub calculated_some : Bool → FormulaTrees → NamedPoint → Result Bool EvalError
  calculated_some sofar plain.none p = Ok sofar
  calculated_some sofar (plain.also f fs) p = calculated_truth f p >>= λ a. calculated_some (sofar || a) fs p
