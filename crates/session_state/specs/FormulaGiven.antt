-- What a command gives, where it is a formula.
use Rattle.program_meaning.specs.Meaning.{Answer, OfFormula, OfText}

-- the command gives a formula, which may be bound; each other one is a query
abbrev pub GivesFormula : Answer → Type 0
GivesFormula (OfFormula a) = Unit {0}
GivesFormula (OfText tells) = ⊥
