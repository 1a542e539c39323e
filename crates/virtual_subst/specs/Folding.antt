-- What a formula gives to the list that it is a member of, where the list is joined and folded.
use Rattle.std.specs.Prelude.{◌≡◌, Bool, List, Some, None, map, if◌then◌else◌}
use Rattle.std.specs.List.{AllByRecursion}
use Rattle.logic_meaning.specs.declared.junction.Junction.{Junction}
use Rattle.logic_meaning.specs.Fold.{pieces_of, put_together}
use Rattle.logic_meaning.specs.Formula.{none, also}
use Rattle.logic_meaning.specs.Tree.{Tree}
use Rattle.formula_tree.specs.declared.shape.Shape.{Shape}
use Rattle.formula_tree.specs.Shapes.{tree_over, ids_of}
use Rattle.formula_tree.specs.Trees.{members}
use Rattle.formula_store.specs.declared.id.FormulaId.{FormulaId}
use Rattle.formula_store.specs.Nodes.{tree, IsId}
use Rattle.virtual_subst.specs.declared.folding.Part.{Part}
use Rattle.virtual_subst.specs.declared.folding.Part.TheVariants.{Nothing, Whole, Members, Itself}

abbrev pub Gives : Junction → Shape FormulaId → Part → Type 0
Gives j n Nothing = (t : FormulaId → Tree) → pieces_of j (tree_over t n) ≡ Some none
Gives j n Whole = (t : FormulaId → Tree) → pieces_of j (tree_over t n) ≡ None
Gives j n (Members ids) = (ids.now ≡ ids_of n) × ((t : FormulaId → Tree) → pieces_of j (tree_over t n) ≡ Some (members (map t ids.now)))
Gives j n Itself = (t : FormulaId → Tree) → pieces_of j (tree_over t n) ≡ Some (also (tree_over t n) none)

-- To the pieces comes what the formula gives, unless it decides the whole; each is an id.
pub record IsGathered (nodes : List (Shape FormulaId)) (j : Junction) (id : FormulaId) (old new : List FormulaId) (goes : Bool) : Type 0 where
  pub pieces : put_together (Some (members (map (tree nodes) old))) (pieces_of j (tree nodes id)) ≡ (if goes then Some (members (map (tree nodes) new)) else None)
  pub ids : AllByRecursion (IsId nodes) new
