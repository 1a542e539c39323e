-- The values of names that the program has found.
use Rattle.std.specs.Prelude.{◌≡◌, ℕ, pos, List, reverse, nat_eq, unwrap_or, option_map, Option, None}
use Rattle.std.specs.Map.{lookup}
use Rattle.exact_numbers.specs.declared.fraction.Fraction.{Fraction}
use Rattle.exact_numbers.specs.Frac.{Frac, whole_frac}
use Rattle.exact_numbers.specs.Fraction.{frac_of}
use Rattle.linear_forms.specs.declared.error.LinError.{LinError}
use Rattle.linear_forms.specs.declared.error.LinError.TheVariants.{Overflow, Memory}
use Rattle.logic_meaning.specs.declared.form.VarId.{VarId}
use Rattle.sample_reference.specs.Seen.{values_of}
use Rattle.logic_meaning.specs.Values.{Value}
use Rattle.logic_meaning.specs.Bounds.{value_among}

abbrev pub ValueList : Type 0
ValueList = List Value

-- the values of a list, that of its last element first
abbrev pub found_of : List (VarId × Fraction) → ValueList
found_of list = values_of (reverse list)

-- the value of a name in the index, 0 where it has none
abbrev pub value_in : List (ℕ × Fraction) → ℕ → Frac
value_in entries x = unwrap_or (option_map frac_of (lookup (nat_eq x) entries)) (whole_frac (pos 0))

-- the index gives each name its value in the list
pub record IsIndex (list : List (VarId × Fraction)) (entries : List (ℕ × Fraction)) : Type 0 where
  pub same : (x : ℕ) → value_in entries x ≡ value_among (found_of list) x

-- the error says that the calculation gives nothing, or says nothing
abbrev pub Lacks : {A : Type 0} → LinError → Option A → Type 0
Lacks Overflow o = o ≡ None
Lacks Memory o = Unit {0}
