-- The cases of a direct formula.
use Rattle.std.specs.Prelude.{ℕ, ◌≤◌, List, length}
use Rattle.logic_meaning.specs.Answer.{Place}
use Rattle.logic_meaning.specs.Some.{EachOf}
use Rattle.logic_meaning.specs.Tree.{Trees}
use Rattle.shape_theory.specs.Texts.{IsNoLarger}
use Rattle.formula_tree.specs.declared.shape.Shape.{Shape}
use Rattle.formula_store.specs.declared.id.FormulaId.{FormulaId}
use Rattle.formula_store.specs.Nodes.{tree}
use Rattle.logic_meaning.specs.Direct.{direct_answer}
use Rattle.engine_answers.specs.declared.case_tree.Case.{Case}
use Rattle.engine_answers.specs.declared.case_tree.CaseTree.{CaseTree}

-- there is at most one case, and its guard is no larger than the direct answer
pub record IsDirectTree (x : ℕ) (fs : Trees) (s : Place) (store : List (Shape FormulaId)) (t : CaseTree) : Type 0 where
  pub few : length t.cases.items ≤ 1
  pub guards : EachOf (λ (k : Case). IsNoLarger (direct_answer x fs s) (tree store k.guard)) t.cases.items
