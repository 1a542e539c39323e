-- What a settled join is to the program.
use Rattle.logic_meaning.specs.declared.junction.Junction.{Junction}
use Rattle.logic_meaning.specs.declared.junction.Junction.TheVariants.{Conjunction, Disjunction}
use Rattle.normal_atoms.specs.declared.answers.Merged.{Merged}
use Rattle.normal_atoms.specs.declared.answers.Merged.TheVariants.{True, False}

-- an empty intersection is false, a union that is everything is true
abbrev pub absorbing : Junction → Merged
absorbing Conjunction = False
absorbing Disjunction = True
