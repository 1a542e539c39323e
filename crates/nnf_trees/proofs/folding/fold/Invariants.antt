use Rattle.std.proofs.Common.{◌≡◌, Some, map}
use Rattle.logic_meaning.specs.Fold.{put_together, all_pieces}
use Rattle.formula_tree.specs.Trees.{members}
use Rattle.nnf_trees.specs.Nnfs.{nnf_of, AreProper}
use Rattle.nnf_trees.proofs.folding.fold.Given as goal

-- the pieces and those of the members left are those of all
abbrev pub invariant-loop-member : goal.invariant-loop-member
invariant-loop-member l = record {
  can : (goal.iterator-loop-member).can_next l.member-iterator;
  finite : (goal.iterator-loop-member).is_finite l.member-iterator;
  left : put_together (Some (members (map nnf_of l.pieces.items))) (all_pieces l.junction (members (map nnf_of l.member-iterator.rest.items)))
      ≡ all_pieces l.junction (members (map nnf_of l.fn.list.items));
  pieces : AreProper l.pieces.items;
  rest : AreProper l.member-iterator.rest.items;
}
