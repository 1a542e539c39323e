-- Coefficients by name, as a map keeps them.
use Rattle.std.specs.Prelude.{ℕ, ℤ, pos, List, nat_eq, unwrap_or}
use Rattle.std.specs.Map.{lookup}

-- the coefficient of a name, 0 where it has none
abbrev pub coefficient_at : List (ℕ × ℤ) → ℕ → ℤ
coefficient_at es x = unwrap_or (lookup (nat_eq x) es) (pos 0)
