-- Entries after some nodes: together they stand for formulas, each once, and something is known of each that has an entry.
use Rattle.std.specs.Prelude.{◌≡◌, ℕ, ◌+◌, ◌<◌, ◌^◌, List, ◌++◌, Some, slice_get, length}
use Rattle.std.specs.Map.{keys_of}
use Rattle.formula_tree.specs.declared.shape.Shape.{Shape}
use Rattle.formula_store.specs.declared.id.FormulaId.{FormulaId}
use Rattle.formula_store.specs.declared.facts.Facts.{Facts}
use Rattle.formula_store.specs.Nodes.{AreNodes, tree}
use Rattle.formula_store.specs.Facts.{IsFactsOf}

pub record AreStored (below : List (Shape FormulaId)) (entries : List (Shape FormulaId × Facts)) : Type 0 where
  pub nodes : AreNodes (below ++ keys_of entries)
  pub known : (i : ℕ) (e : Shape FormulaId × Facts) (id : FormulaId) → slice_get entries i ≡ Some e → id.number ≡ length below + i → IsFactsOf (tree (below ++ keys_of entries) id) e.1

-- entries made beside a store with these nodes, whose number is known
pub record IsOverlay (below : List (Shape FormulaId)) (begun : ℕ) (entries : List (Shape FormulaId × Facts)) : Type 0 where
  pub size : begun ≡ length below
  pub small : begun < 2 ^ 63
  pub stored : AreStored below entries
