-- The program's values.
use Rattle.std.specs.Prelude.{List, map, Option, Some, None}
use Rattle.std.specs.declared.vec.Vec.{Vec}
use Rattle.std.specs.declared.alloc.Global.{Global}
use Rattle.exact_numbers.specs.declared.fraction.Fraction.{Fraction}
use Rattle.exact_numbers.specs.Fraction.{frac_of}
use Rattle.logic_meaning.specs.declared.form.VarId.{VarId}
use Rattle.logic_meaning.specs.Values.{Value}

-- a name and its value
abbrev pub value_of : VarId × Fraction → Value
value_of v = record { name = v.0.number; at = frac_of v.1 }

abbrev pub values_of : List (VarId × Fraction) → List Value
values_of vs = map value_of vs

-- the values, where there are some
abbrev pub sample_of : Option (Vec (VarId × Fraction) Global) → Option (List Value)
sample_of (Some v) = Some (values_of v.items)
sample_of None = None
