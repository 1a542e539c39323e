-- The negation normal form of a resolved formula.
use Rattle.logic_meaning.specs.NegationNormal.{normal_form}
use Rattle.logic_meaning.specs.Tree.{Tree}
use Rattle.logic_meaning.specs.NormalForm.{negated_normal}

-- the negation normal form, with the normal negation of atoms
abbrev pub negation_form : Tree → Tree
negation_form f = normal_form negated_normal f
