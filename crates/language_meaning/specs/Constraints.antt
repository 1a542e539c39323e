-- Which formulas are constraints: comparisons of two terms, but for <>.
use Rattle.std.specs.Prelude.{Bool, true, false}
use Rattle.logic_meaning.specs.Formula.{One}
use Rattle.language_meaning.specs.declared.tree.Relation.{Relation}
use Rattle.language_meaning.specs.declared.tree.Relation.TheVariants.{Equal, Differs, Less, AtMost, Greater, AtLeast}
use Rattle.language_meaning.specs.Trees.{Compare, FormulaTree}

-- each relation but <>
abbrev pub bounds : Relation → Bool
bounds Equal = true
bounds Differs = false
bounds Less = true
bounds AtMost = true
bounds Greater = true
bounds AtLeast = true

-- a comparison by such a relation
abbrev pub is_constraint : FormulaTree → Bool
is_constraint (One (Compare r s t)) = bounds r
is_constraint f = false

-- each relation that a point on its border has too: =, <= and >=
abbrev pub is_weak : Relation → Bool
is_weak Equal = true
is_weak Differs = false
is_weak Less = false
is_weak AtMost = true
is_weak Greater = false
is_weak AtLeast = true

-- a comparison by such a relation
abbrev pub is_weak_constraint : FormulaTree → Bool
is_weak_constraint (One (Compare r s t)) = is_weak r
is_weak_constraint f = false
