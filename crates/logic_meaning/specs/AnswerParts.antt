-- Guards and names of cases.
use Rattle.std.specs.Prelude.{ℕ, List, [], ◌∷◌}
use Rattle.logic_meaning.specs.Formula.{none, also}
use Rattle.logic_meaning.specs.Answer.{Answer}
use Rattle.logic_meaning.specs.Tree.{Trees}
use Rattle.logic_meaning.specs.Cases.{Case}

-- the guards of the cases, in order
abbrev pub guards_of : List Case → Trees
guards_of [] = none
guards_of (k ∷ cases) = also k.guard (guards_of cases)

-- the names that the answers put at places, in order
abbrev pub answer_names : List Answer → List ℕ
answer_names [] = []
answer_names (a ∷ answers) = a.name ∷ answer_names answers
