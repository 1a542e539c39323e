-- Formulas joined with the guard of a place.
use Rattle.logic_meaning.specs.Context.{Context, Fields, Integers}
use Rattle.logic_meaning.specs.Answer.{Place}
use Rattle.logic_meaning.specs.Tree.{Tree}
use Rattle.nnf_trees.specs.Placed.{with_guard}

-- the formula, over the integers joined with the guard of the place
abbrev pub guarded : Context → Place → Tree → Tree
guarded Fields s f = f
guarded Integers s f = with_guard s f
