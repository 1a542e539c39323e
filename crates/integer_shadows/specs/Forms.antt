-- Forms that are made of others.
use Rattle.std.specs.Prelude.{◌≡◌, ℕ, ℤ, pos, ◌+ℤ◌, ◌-ℤ◌, ◌*ℤ◌, List}
use Rattle.exact_numbers.specs.Divides.{Divides, residue_of}
use Rattle.logic_meaning.specs.Context.{Integers}
use Rattle.logic_meaning.specs.Point.{Point, Of}
use Rattle.logic_meaning.specs.Form.{Form, value, coefficient}
use Rattle.logic_meaning.specs.Some.{SomeOf}
use Rattle.logic_meaning.specs.Atom.{Atom, Mentions}
use Rattle.linear_forms.specs.Combinations.{IsLinear}

-- each name of the form stands in some of the atoms
abbrev pub IsOver : List Atom → Form → Type 0
IsOver us f = (y : ℕ) → ¬ (coefficient y f ≡ pos 0) → SomeOf (λ (u : Atom). Mentions u y) us

-- r is f without the multiple of x
pub record IsWithout (x : ℕ) (f r : Form) : Type 0 where
  pub linear : IsLinear r
  pub gone : coefficient x r ≡ pos 0
  pub others : (y : ℕ) → coefficient y f ≡ pos 0 → coefficient y r ≡ pos 0
  pub value_splits : (p : Point ℕ) → value f p ≡ coefficient x f *ℤ p.at x +ℤ value r p

-- r is a * f + b * g modulo m
pub record IsReduction (a : ℤ) (f : Form) (b : ℤ) (g : Form) (m : ℤ) (r : Form) : Type 0 where
  pub linear : IsLinear r
  pub coefficients : (y : ℕ) → coefficient y r ≡ residue_of (a *ℤ coefficient y f +ℤ b *ℤ coefficient y g) m
  pub values : (p : Point ℕ) → Divides m ((a *ℤ value f p +ℤ b *ℤ value g p) -ℤ value r p)

-- r is f + n at the points of the integers
pub record IsRaised (n : ℤ) (f r : Form) : Type 0 where
  pub linear : IsLinear r
  pub coefficients : (y : ℕ) → coefficient y r ≡ coefficient y f
  pub values : (p : Point ℕ) → Of Integers p → value r p ≡ value f p +ℤ n
