-- Whole numbers for names, over one denominator.
use Rattle.std.specs.Prelude.{ℕ, ℤ, pos, List, nat_eq, unwrap_or, unsigned_abs}
use Rattle.std.specs.Map.{lookup}
use Rattle.logic_meaning.specs.Point.{Point}
use Rattle.logic_meaning.specs.declared.form.VarId.{VarId}

-- the entries put in, and the denominator
pub record Numbers : Type 0 where
  pub entries : List (ℕ × ℤ)
  pub denominator : ℤ

-- the number of a name, 0 where none is put in
abbrev pub number_at : Numbers → ℕ → ℤ
number_at v x = unwrap_or (lookup (nat_eq x) v.entries) (pos 0)

-- the point whose numbers they are
abbrev pub point_of : Numbers → Point ℕ
point_of v = record { at = number_at v; below = unsigned_abs v.denominator }

abbrev pub number_of : VarId → ℕ
number_of v = v.number
