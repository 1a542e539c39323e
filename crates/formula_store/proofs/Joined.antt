-- Facts joined one after another.
use Rattle.std.proofs.Common.{◌≡◌, ◌≤◌, ◌||◌, Bool, true, false, refl, sym, ◌∙◌, arith}
use Rattle.logic_meaning.specs.Tree.{Trees}
use Rattle.logic_meaning.specs.Formula.{none}
use Rattle.formula_store.specs.declared.facts.Facts.{Facts}
use Rattle.formula_store.specs.Facts.{most_nodes, AreFactsOf}
use Rattle.formula_store.specs.Together.{Join}

or_false : (b : Bool) → (b || false) ≡ b
or_false true = refl
or_false false = refl

-- nothing is left
pub join_none : (facts : Facts) (all : Trees) → facts.nodes ≤ most_nodes → Join facts none all → AreFactsOf all facts
join_none facts all small j = record {
  height_is = let h = j.height_is in omega arith;
  nodes_are = let h = j.nodes_are in omega arith;
  quantified_is = sym (or_false facts.quantified) ∙ j.quantified_is;
}
