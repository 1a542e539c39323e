-- The branches of a block without those that others cover.
use Rattle.std.specs.Prelude.{◌≡◌, Bool, List, map}
use Rattle.normal_atoms.specs.Atoms.{context_of, atom_of}
use Rattle.formula_tree.specs.declared.shape.Shape.{Shape}
use Rattle.formula_store.specs.declared.id.FormulaId.{FormulaId}
use Rattle.formula_store.specs.Nodes.{tree}
use Rattle.branch_pruning.specs.FromAtomPruning.{marked}
use Rattle.branch_pruning.specs.Pruned.{AreCovering}
use Rattle.branch_rounds.specs.declared.work.Work.{Work}
use Rattle.branch_rounds.specs.Branches.{Seen}

-- the new branches are those of the old ones that are marked, and these cover the others under the assumptions
pub record AreThinned (w : Work) (nodes : List (Shape FormulaId)) (old new : List Seen) : Type 0 where
  pub marks : List Bool
  pub is : new ≡ marked marks old
  pub cover : AreCovering (context_of w.context) (map atom_of w.assumed.now) (map (λ (b : Seen). tree nodes b.formula) old) marks
