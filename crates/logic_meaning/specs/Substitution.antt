-- What substitution over the ordered fields and over the integers have in common.
use Rattle.std.specs.Prelude.{ℕ, suc, zero, ℤ, pos, negsuc}
use Rattle.logic_meaning.specs.Formula.{Yes, No, One}
use Rattle.logic_meaning.specs.Form.{Form, coefficient, without, combine}
use Rattle.logic_meaning.specs.Atom.{Compare, Relation, Equals, Differs, Below, AtMost, Above, AtLeast, mirrored}
use Rattle.logic_meaning.specs.Tree.{Tree}

-- a * e + d * t: the form a * x + t with e/d for x, times d
abbrev pub form_at : ℕ → Form → ℕ → Form → Form
form_at x e d f = combine (coefficient x f) e (pos d) (without x f)

-- what z relation 0 says of a z below all numbers
abbrev pub below_all : Relation → Tree
below_all Equals = No
below_all Differs = Yes
below_all Below = Yes
below_all AtMost = Yes
below_all Above = No
below_all AtLeast = No

-- f relation 0, where f grows by a with x, and x is below all numbers
abbrev pub beyond : ℤ → Relation → Form → Tree
beyond (pos zero) r f = One (Compare r f)
beyond (pos (suc n)) r f = below_all r
beyond (negsuc n) r f = below_all (mirrored r)

-- f relation 0 with e/d for x; without x it stays
abbrev pub exactly : ℤ → Relation → Form → Form → Tree
exactly (pos zero) r f v = One (Compare r f)
exactly (pos (suc n)) r f v = One (Compare r v)
exactly (negsuc n) r f v = One (Compare r v)

-- the first where the number is 0, else the second
abbrev pub where_zero : {X : Type 0} → ℤ → X → X → X
where_zero (pos zero) first second = first
where_zero (pos (suc n)) first second = second
where_zero (negsuc n) first second = second
