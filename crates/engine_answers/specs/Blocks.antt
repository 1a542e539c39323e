-- What the leading block of a formula is, over formulas of a store.
use Rattle.std.specs.Prelude.{◌≡◌, Bool, true, false, List, map}
use Rattle.logic_meaning.specs.declared.quantifier.Quantifier.{Quantifier}
use Rattle.logic_meaning.specs.declared.quantifier.Quantifier.TheVariants.{Exists, ForAll}
use Rattle.logic_meaning.specs.Tree.{Tree}
use Rattle.logic_meaning.specs.Reference.{normal_tree}
use Rattle.logic_meaning.specs.Cases.{case_sign, case_matrix, case_names}
use Rattle.logic_meaning.specs.declared.form.VarId.{VarId}
use Rattle.formula_tree.specs.declared.shape.Shape.{Shape}
use Rattle.formula_tree.specs.Makers.{IsMade}
use Rattle.formula_store.specs.declared.id.FormulaId.{FormulaId}
use Rattle.formula_store.specs.Nodes.{tree, IsId}
use Rattle.engine_answers.specs.declared.block.LeadingBlock.{LeadingBlock}

-- the cases of a block of this quantifier are those of the formula itself, and not of its negation
abbrev pub is_asked : Quantifier → Bool
is_asked Exists = true
is_asked ForAll = false

-- the block of f, as its case list has it: the quantifier, each name once from the outside in, and the matrix
pub record IsLeadingBlock (f : Tree) (nodes : List (Shape FormulaId)) (b : LeadingBlock) : Type 0 where
  pub quantifier : is_asked b.quantifier ≡ case_sign (normal_tree f)
  pub names : map (λ (x : VarId). x.number) b.names.items ≡ case_names f
  pub matrix : IsMade (IsId nodes) (tree nodes) b.matrix (case_matrix f)
