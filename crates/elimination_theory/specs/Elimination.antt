-- The disjunction over all test points: a formula without the quantifier.
use Rattle.std.specs.Prelude.{ℕ, List, [], ◌∷◌}
use Rattle.logic_meaning.specs.Formula.{Or, none, also}
use Rattle.logic_meaning.specs.Answer.{Place}
use Rattle.logic_meaning.specs.Tree.{Tree, Trees}
use Rattle.logic_meaning.specs.declared.side.Side.{Side}
use Rattle.logic_meaning.specs.FieldsPoints.{field_points}
use Rattle.elimination_theory.specs.FieldsTrees.{field_substitution}
use Rattle.elimination_theory.specs.IntegersTrees.{guarded_substitution}
use Rattle.elimination_theory.specs.IntegersPointTrees.{integer_points}

-- put s for each place s, in order
abbrev pub trees_at : (Place → Tree) → List Place → Trees
trees_at put [] = none
trees_at put (s ∷ places) = also (put s) (trees_at put places)

-- the formula with the name put at each test point of the side, joined by or
abbrev pub field_elimination : Side → ℕ → Tree → Tree
field_elimination side x f = Or (trees_at (λ s. field_substitution x s f) (field_points side x f))

-- over the integers each with its guard
abbrev pub integer_elimination : Side → ℕ → Tree → Tree
integer_elimination side x f = Or (trees_at (λ s. guarded_substitution x s f) (integer_points side x f))
