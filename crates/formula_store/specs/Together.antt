-- What is known of a list of formulas, while it is gone through.
use Rattle.std.specs.Prelude.{◌≡◌, ◌+◌, max, min, ◌||◌}
use Rattle.logic_meaning.specs.Tree.{Trees}
use Rattle.logic_meaning.specs.Sizes.{all_nodes, greatest_height}
use Rattle.logic_meaning.specs.Quantified.{some_quantifier}
use Rattle.formula_store.specs.declared.facts.Facts.{Facts}
use Rattle.formula_store.specs.Facts.{most_nodes}

-- the facts so far, together with those of the rest, are those of all
pub record Join (facts : Facts) (rest all : Trees) : Type 0 where
  pub height_is : max facts.height (greatest_height rest) ≡ greatest_height all
  pub nodes_are : min (facts.nodes + all_nodes rest) most_nodes ≡ min (all_nodes all) most_nodes
  pub quantified_is : (facts.quantified || some_quantifier rest) ≡ some_quantifier all
