use Rattle.std.proofs.Common.{◌≡◌, Some, map, drop}
use Rattle.std.specs.List.{AllByRecursion}
use Rattle.logic_meaning.specs.Fold.{all_pieces, put_together}
use Rattle.formula_tree.specs.Trees.{members}
use Rattle.formula_store.specs.Nodes.{tree, IsId}
use Rattle.virtual_subst.specs.Shared.{made_of}
use Rattle.virtual_subst.proofs.folding.gathered.Given as goal

-- the pieces and those of the ids left are those of all
abbrev pub invariant-loop-id : goal.invariant-loop-id
invariant-loop-id g l =
    let nodes = g.M.Formulas.nodes l.formulas in
    record {
      left : put_together (Some (members (map (tree nodes) l.pieces.items))) (all_pieces l.junction (members (map (tree nodes) (map (made_of l.table) (drop l.id-index l.ids))))) ≡ all_pieces l.junction (members (map (tree nodes) (map (made_of l.table) l.ids)));
      ids : AllByRecursion (IsId nodes) l.pieces.items;
    }
