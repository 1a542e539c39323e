-- A case tree without the cases that others cover.
use Rattle.std.specs.Prelude.{◌≡◌, Bool, List, map}
use Rattle.logic_meaning.specs.Context.{Context}
use Rattle.logic_meaning.specs.Atom.{Atom}
use Rattle.formula_tree.specs.declared.shape.Shape.{Shape}
use Rattle.formula_store.specs.declared.id.FormulaId.{FormulaId}
use Rattle.formula_store.specs.Nodes.{tree}
use Rattle.branch_pruning.specs.FromAtomPruning.{marked}
use Rattle.branch_pruning.specs.Pruned.{AreCovering}
use Rattle.engine_answers.specs.declared.case_tree.Case.{Case}
use Rattle.engine_answers.specs.declared.case_tree.CaseTree.{CaseTree}

-- the new tree has the cases of the old one that are marked, and their guards cover those of the others under the atoms
pub record IsThinnedTree (c : Context) (ks : List Atom) (nodes : List (Shape FormulaId)) (old new : CaseTree) : Type 0 where
  pub marks : List Bool
  pub universal : new.universal ≡ old.universal
  pub block : new.block ≡ old.block
  pub matrix : new.matrix ≡ old.matrix
  pub cases : new.cases.items ≡ marked marks old.cases.items
  pub cover : AreCovering c ks (map (λ (k : Case). tree nodes k.guard) old.cases.items) marks
