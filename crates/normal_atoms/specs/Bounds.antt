-- A comparison over the integers, rounded, as the program holds it.
use Rattle.std.specs.Prelude.{List}
use Rattle.exact_numbers.specs.Limit.{InLimit}
use Rattle.logic_meaning.specs.Form.{Term}
use Rattle.logic_meaning.specs.Formula.{Yes, No}
use Rattle.logic_meaning.specs.Tree.{Tree}
use Rattle.logic_meaning.specs.NormalForm.{bound}
use Rattle.normal_atoms.specs.Atoms.{relation_of}
use Rattle.normal_atoms.specs.declared.comparison.Bound.{Bound}
use Rattle.normal_atoms.specs.declared.comparison.Bound.TheVariants.{Always, Never, At}

-- the terms v with the bound
abbrev pub bounded : Bound → List Term → Tree
bounded Always v = Yes
bounded Never v = No
bounded (At r k) v = bound (relation_of r) v k

-- the constant is within the limit
abbrev pub IsWithin : Bound → Type 0
IsWithin Always = Unit {0}
IsWithin Never = Unit {0}
IsWithin (At r k) = InLimit k
