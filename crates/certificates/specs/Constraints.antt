-- What the program's constraints mean.
use Rattle.logic_meaning.specs.Constraints as meaning
use Rattle.certificates.specs.declared.constraint.Bound.{Bound}
use Rattle.certificates.specs.declared.constraint.Bound.TheVariants.{Equal, AtMost, Below}
use Rattle.certificates.specs.declared.constraint.Constraint.{Constraint}

-- what the value of a form is to be
abbrev pub bound_of : Bound → meaning.Bound
bound_of Equal = meaning.Equal
bound_of AtMost = meaning.AtMost
bound_of Below = meaning.Below

-- the constraint
abbrev pub constraint_of : Constraint → meaning.Constraint
constraint_of c = record { form = c.form; bound = bound_of c.bound }
