-- Divisibility of whole numbers, greatest common divisors and least common multiples, floors and residues.
use Rattle.std.specs.Prelude.{List, [], ◌∷◌, ◌≡◌, ℕ, zero, suc, ◌%◌, ℤ, pos, ◌*ℤ◌, ◌≤ℤ◌, unsigned_abs, int_div}
use Rattle.std.specs.Int.{int_div_euclid, int_rem_euclid}

-- n is a multiple of d
pub record Divides (d n : ℤ) : Type 0 where
  pub quotient : ℤ
  pub exact : n ≡ d *ℤ quotient

-- g is the greatest common divisor of a and b: not negative, and divided by every other common divisor
pub record IsGcd (a b g : ℤ) : Type 0 where
  pub not_negative : pos 0 ≤ℤ g
  pub left : Divides g a
  pub right : Divides g b
  pub greatest : (d : ℤ) → Divides d a → Divides d b → Divides d g

-- Euclid's algorithm with at most so many steps
unfoldable pub euclid : ℕ → ℕ → ℕ → ℕ
euclid zero a b = a
euclid (suc steps) a zero = a
euclid (suc steps) a (suc b) = euclid steps (suc b) (a % suc b)

-- the greatest common divisor
unfoldable pub gcd_of : ℤ → ℤ → ℤ
gcd_of a b = pos (euclid (suc (unsigned_abs b)) (unsigned_abs a) (unsigned_abs b))

-- the least common multiple of two positive numbers
unfoldable pub lcm_of : ℤ → ℤ → ℤ
lcm_of a b = int_div a (gcd_of a b) *ℤ b

-- a / b rounded down, for a positive b
abbrev pub floor_of : ℤ → ℤ → ℤ
floor_of a b = int_div_euclid a b

-- what remains of a modulo a positive m
abbrev pub residue_of : ℤ → ℤ → ℤ
residue_of a m = int_rem_euclid a m

-- the greatest common divisor of a list's numbers, 0 of the empty list
unfoldable pub content_of : List ℤ → ℤ
content_of [] = pos 0
content_of (x ∷ xs) = gcd_of x (content_of xs)
