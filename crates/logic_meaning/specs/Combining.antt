-- Which numbers the combination a * f + b * g of two forms forms, against the limit of exact_numbers.
use Rattle.std.specs.Prelude.{◌⊎◌, ℕ, ℤ, ◌+ℤ◌, ◌*ℤ◌}
use Rattle.exact_numbers.specs.Limit.{InLimit, PastLimit}
use Rattle.logic_meaning.specs.Form.{Form, coefficient}

-- two products and their sum are within the limit
pub record AddWithin (p q : ℤ) : Type 0 where
  pub first : InLimit p
  pub second : InLimit q
  pub sum : InLimit (p +ℤ q)

-- one of two products, or their sum, passes the limit
pub record AddPasses (p q : ℤ) : Type 0 where
  pub cause : PastLimit p ⊎ (PastLimit q ⊎ PastLimit (p +ℤ q))

-- no product and no sum of a * f + b * g passes the limit, at any name and at the constants
pub record CombinesWithin (a : ℤ) (f : Form) (b : ℤ) (g : Form) : Type 0 where
  pub places : (x : ℕ) → AddWithin (a *ℤ coefficient x f) (b *ℤ coefficient x g)
  pub constants : AddWithin (a *ℤ f.constant) (b *ℤ g.constant)

-- a product or sum of a * f + b * g passes the limit, at some name or at the constants
pub record CombinePasses (a : ℤ) (f : Form) (b : ℤ) (g : Form) : Type 0 where
  pub cause : ((x : ℕ) × AddPasses (a *ℤ coefficient x f) (b *ℤ coefficient x g)) ⊎ AddPasses (a *ℤ f.constant) (b *ℤ g.constant)
