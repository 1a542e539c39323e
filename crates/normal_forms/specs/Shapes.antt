-- The shapes of lists.
use Rattle.std.specs.Prelude.{List}
use Rattle.logic_meaning.specs.declared.junction.Junction.{Junction}
use Rattle.logic_meaning.specs.declared.junction.Junction.TheVariants.{Conjunction, Disjunction}
use Rattle.formula_tree.specs.declared.shape.Shape.{Shape}
use Rattle.formula_tree.specs.declared.shape.Shape.TheVariants as shape

-- the list without members
abbrev pub neutral_shape : {Id : Type 0} → Junction → Shape Id
neutral_shape Conjunction = shape.True
neutral_shape Disjunction = shape.False

-- these formulas joined
abbrev pub joined_shape : {Id : Type 0} → Junction → List Id → Shape Id
joined_shape Conjunction ids = shape.And ids
joined_shape Disjunction ids = shape.Or ids
