-- Shapes of formulas in negation normal form.
use Rattle.std.specs.Prelude.{List}
use Rattle.logic_meaning.specs.declared.quantifier.Quantifier.TheVariants.{Exists, ForAll}
use Rattle.logic_meaning.specs.declared.junction.Junction.TheVariants.{Conjunction, Disjunction}
use Rattle.logic_meaning.specs.declared.form.VarId.{VarId}
use Rattle.formula_tree.specs.declared.shape.Shape.{Shape}
use Rattle.formula_tree.specs.declared.shape.Shape.TheVariants as shape
use Rattle.logic_meaning.specs.declared.junction.Junction.{Junction}
use Rattle.logic_meaning.specs.declared.quantifier.Quantifier.{Quantifier}

-- these formulas joined
abbrev pub joined_shape : {Id : Type 0} → Junction → List Id → Shape Id
joined_shape Conjunction ids = shape.And ids
joined_shape Disjunction ids = shape.Or ids

-- the formula under a quantifier
abbrev pub quantified_shape : {Id : Type 0} → Quantifier → VarId → Id → Shape Id
quantified_shape Exists x f = shape.Ex x f
quantified_shape ForAll x f = shape.All x f
