-- And for or, or for and.
use Rattle.std.specs.Prelude.{Bool, true, false}
use Rattle.logic_meaning.specs.declared.junction.Junction.{Junction}
use Rattle.logic_meaning.specs.declared.junction.Junction.TheVariants.{Conjunction, Disjunction}

-- what a negation makes of it
abbrev pub turned_junction : Bool → Junction → Junction
turned_junction false j = j
turned_junction true Conjunction = Disjunction
turned_junction true Disjunction = Conjunction
