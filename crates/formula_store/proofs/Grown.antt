-- Nodes added at the end.
use Rattle.std.proofs.Common.{◌≡◌, ◌≤◌, List, ◌++◌, length, take, ap, ◌∙◌}
use Rattle.std.proofs.lemmas.List.{take-append-le}
use Rattle.formula_tree.specs.declared.shape.Shape.{Shape}
use Rattle.formula_store.specs.declared.id.FormulaId.{FormulaId}
use Rattle.formula_store.specs.Nodes.{tree}
use Rattle.formula_store.specs.Changes.{Change, Grows, tree_on}

-- what was made beside a store is over the nodes that stay
pub stays_on : (old now : List (Shape FormulaId)) (d : Change) → d.begun ≤ length old → Grows old now → tree_on now d ≡ tree_on old d
stays_on old now d h g = ap (λ ns. tree (ns ++ d.own) d.root) (ap (take d.begun) g.is ∙ take-append-le d.begun old g.more h)
