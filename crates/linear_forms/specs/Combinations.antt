-- Sums of multiples of forms.
use Rattle.std.specs.Prelude.{◌≡◌, ℕ, ℤ, ◌+ℤ◌, ◌*ℤ◌}
use Rattle.exact_numbers.specs.Limit.{InLimit}
use Rattle.logic_meaning.specs.Point.{Point}
use Rattle.logic_meaning.specs.Sorted.{IsSorted}
use Rattle.logic_meaning.specs.Form.{Form, value, coefficient}
use Rattle.logic_meaning.specs.Numbers.{AllInLimit}
use Rattle.logic_meaning.specs.Combining.{CombinesWithin}

-- a form as the program holds it: sorted, and each number within the limit
pub record IsLinear (f : Form) : Type 0 where
  pub sorted : IsSorted f
  pub within : AllInLimit f.terms
  pub constant_within : InLimit f.constant

-- r is a * f + b * g, as the program holds it
pub record IsCombination (a : ℤ) (f : Form) (b : ℤ) (g r : Form) : Type 0 where
  pub linear : IsLinear r
  pub coefficients_add : (x : ℕ) → coefficient x r ≡ a *ℤ coefficient x f +ℤ b *ℤ coefficient x g
  pub constants_add : r.constant ≡ a *ℤ f.constant +ℤ b *ℤ g.constant
  pub values_add : (p : Point ℕ) → value r p ≡ a *ℤ value f p +ℤ b *ℤ value g p
  pub within : CombinesWithin a f b g

-- each number times d is that of f
pub record IsQuotient (f : Form) (d : ℤ) (r : Form) : Type 0 where
  pub linear : IsLinear r
  pub coefficients_scale : (x : ℕ) → d *ℤ coefficient x r ≡ coefficient x f
  pub constant_scales : d *ℤ r.constant ≡ f.constant
  pub values_scale : (p : Point ℕ) → d *ℤ value r p ≡ value f p
