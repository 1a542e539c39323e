-- What a store knows of each formula.
use Rattle.std.specs.Prelude.{◌≡◌, ℕ, min}
use Rattle.logic_meaning.specs.Tree.{Tree, Trees}
use Rattle.logic_meaning.specs.Sizes.{nodes, all_nodes, height, greatest_height}
use Rattle.logic_meaning.specs.Quantified.{has_quantifier, some_quantifier}
use Rattle.formula_store.specs.declared.facts.Facts.{Facts}

-- more nodes than these count as so many
abbrev pub most_nodes : ℕ
most_nodes = 18446744073709551615

-- the facts of the formula
pub record IsFactsOf (f : Tree) (facts : Facts) : Type 0 where
  pub height_is : facts.height ≡ height f
  pub nodes_are : facts.nodes ≡ min (nodes f) most_nodes
  pub quantified_is : facts.quantified ≡ has_quantifier f

-- the facts of the formulas together
pub record AreFactsOf (fs : Trees) (facts : Facts) : Type 0 where
  pub height_is : facts.height ≡ greatest_height fs
  pub nodes_are : facts.nodes ≡ min (all_nodes fs) most_nodes
  pub quantified_is : facts.quantified ≡ some_quantifier fs
