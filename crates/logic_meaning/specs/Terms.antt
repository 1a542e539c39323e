-- Which numbers the value of a form and a combination of forms pass through, and when one of them passes the limit.
use Rattle.std.specs.Prelude.{◌⊎◌, ℕ, ℤ, pos, ◌+ℤ◌, ◌*ℤ◌, List, [], ◌∷◌, Option, Some}
use Rattle.exact_numbers.specs.Limit.{PastLimit, checked}
use Rattle.exact_numbers.specs.Frac.{◌>>=◌}
pub use Rattle.logic_meaning.specs.Form.{coefficients}
pub use Rattle.logic_meaning.specs.Numbers.{AllInLimit}
pub use Rattle.logic_meaning.specs.Combining.{AddWithin as PlaceWithin, AddPasses as PlacePasses, CombinesWithin, CombinePasses}
use Rattle.logic_meaning.specs.Form.{Form, Term, total}

-- the sum so far and the terms, product by product and sum by sum
unfoldable pub total_steps : ℤ → List Term → (ℕ → ℤ) → Option ℤ
total_steps sum [] at = Some sum
total_steps sum (t ∷ ts) at = do
  product ← checked (t.times *ℤ at t.name)
  next ← checked (sum +ℤ product)
  total_steps next ts at

-- the value times the denominator: the terms in rising order from 0 on, and the constant last
unfoldable pub value_steps : Form → (ℕ → ℤ) → ℤ → Option ℤ
value_steps f at denominator = do
  total ← total_steps (pos 0) f.terms at
  product ← checked (f.constant *ℤ denominator)
  checked (total +ℤ product)

-- a product or a partial sum of the steps passes the limit
abbrev pub TotalPasses : ℤ → List Term → (ℕ → ℤ) → Type 0
TotalPasses sum [] at = ⊥
TotalPasses sum (t ∷ ts) at =
    PastLimit (t.times *ℤ at t.name) ⊎ (PastLimit (sum +ℤ t.times *ℤ at t.name) ⊎ TotalPasses (sum +ℤ t.times *ℤ at t.name) ts at)

-- a product or a partial sum of the value passes the limit
pub record ValuePasses (f : Form) (at : ℕ → ℤ) (denominator : ℤ) : Type 0 where
  pub cause : TotalPasses (pos 0) f.terms at ⊎ (PastLimit (f.constant *ℤ denominator) ⊎ PastLimit (total f.terms at +ℤ f.constant *ℤ denominator))
