-- The textbook facts of division, as relations.
use Rattle.std.specs.Prelude.{List, [], ◌∷◌, ◌≡◌, ℤ, pos, ◌+ℤ◌, ◌-ℤ◌, ◌*ℤ◌, ◌≤ℤ◌, ◌<ℤ◌}
use Rattle.exact_numbers.specs.Divides.{Divides}

-- m is the least common multiple of a and b: positive, and dividing every other common multiple
pub record IsLcm (a b m : ℤ) : Type 0 where
  pub positive : pos 0 <ℤ m
  pub left : Divides a m
  pub right : Divides b m
  pub least : (n : ℤ) → Divides a n → Divides b n → Divides m n

-- whole factors by which a and b add up to g
pub record Combines (a b g : ℤ) : Type 0 where
  pub first : ℤ
  pub second : ℤ
  pub sum : a *ℤ first +ℤ b *ℤ second ≡ g

-- q is a / b rounded down, for a positive b
pub record IsFloor (a b q : ℤ) : Type 0 where
  pub below : (b *ℤ q) ≤ℤ a
  pub above : a <ℤ (b *ℤ (q +ℤ pos 1))

-- r is what remains of a modulo m: from 0 up to m - 1, and apart from a by a multiple of m
pub record IsResidue (a m r : ℤ) : Type 0 where
  pub not_negative : pos 0 ≤ℤ r
  pub below : r <ℤ m
  pub same : Divides m (a -ℤ r)

-- a number x with a x ≡ c modulo m
pub record Solves (a c m : ℤ) : Type 0 where
  pub solution : ℤ
  pub same : Divides m (a *ℤ solution -ℤ c)

-- every number of the list is a multiple of d
abbrev pub DividesAll : ℤ → List ℤ → Type 0
DividesAll d [] = Unit {0}
DividesAll d (x ∷ xs) = Divides d x × DividesAll d xs

-- g is the greatest common divisor of a list's numbers
pub record IsContent (xs : List ℤ) (g : ℤ) : Type 0 where
  pub not_negative : pos 0 ≤ℤ g
  pub divides : DividesAll g xs
  pub greatest : (d : ℤ) → DividesAll d xs → Divides d g
