-- The leading block of a formula, begun.
use Rattle.std.specs.Prelude.{◌≡◌, ◌≤◌, ◌+◌, ◌*◌, List, length, map}
use Rattle.logic_meaning.specs.Every.{Every}
use Rattle.logic_meaning.specs.Fold.{folded}
use Rattle.logic_meaning.specs.NormalForm.{IsNormal}
use Rattle.logic_meaning.specs.Shape.{IsQuantifierFree}
use Rattle.logic_meaning.specs.Sizes as size
use Rattle.logic_meaning.specs.Tree.{Tree}
use Rattle.normal_atoms.specs.Atoms.{context_of, atom_of}
use Rattle.formula_tree.specs.declared.shape.Shape.{Shape}
use Rattle.formula_store.specs.declared.id.FormulaId.{FormulaId}
use Rattle.formula_store.specs.Nodes.{tree}
use Rattle.branch_rounds.specs.Worked.{IsWorkedTo}
use Rattle.engine_answers.specs.declared.branched.Begun.{Begun}
use Rattle.engine_answers.specs.declared.task.Task.{Task}
use Rattle.engine_answers.specs.Assumed.{lacking}
use Rattle.engine_answers.specs.Blocks.{IsLeadingBlock}

-- It is the leading block of f, its matrix was worked on, and the assumptions for it are those without its names.
pub record IsBegun (t : Task) (f : Tree) (nodes : List (Shape FormulaId)) (b : Begun) : Type 0 where
  pub normal : Every (IsNormal (context_of t.context)) f
  pub block : IsLeadingBlock f nodes b.block
  pub assumed : b.assumed.items ≡ lacking b.block.names.items t.theory.now
  pub worked : IsWorkedTo (context_of t.context) (map atom_of b.assumed.items) (tree nodes b.block.matrix) nodes b.matrix

-- A matrix without quantifiers and within the limit is folded only, and nothing is paid for it.
pub record IsUnpaid (t : Task) (nodes : List (Shape FormulaId)) (b : Begun) : Type 0 where
  pub plain : size.nodes (tree nodes b.block.matrix) + length b.block.names.items ≤ t.limits.nodes → IsQuantifierFree (tree nodes b.block.matrix) → tree nodes b.matrix ≡ folded (tree nodes b.block.matrix)
  pub budget : IsQuantifierFree (tree nodes b.block.matrix) → 2 * t.limits.nodes + 8 ≤ b.budget.nodes
