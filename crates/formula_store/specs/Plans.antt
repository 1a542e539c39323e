-- What is to be made for a form, over formulas that are there already.
use Rattle.std.specs.Prelude.{◌≡◌, List}
use Rattle.logic_meaning.specs.declared.junction.Junction.{Junction}
use Rattle.logic_meaning.specs.declared.junction.Junction.TheVariants.{Conjunction, Disjunction}
use Rattle.logic_meaning.specs.declared.quantifier.Quantifier.{Quantifier}
use Rattle.logic_meaning.specs.declared.quantifier.Quantifier.TheVariants.{Exists, ForAll}
use Rattle.logic_meaning.specs.Formula.{And, Or}
use Rattle.logic_meaning.specs.Tree.{Tree}
use Rattle.logic_meaning.specs.NegationNormal.{both}
use Rattle.formula_tree.specs.declared.shape.Shape.{Shape}
use Rattle.formula_tree.specs.declared.shape.Shape.TheVariants as shape
use Rattle.logic_meaning.specs.declared.form.VarId.{VarId}
use Rattle.formula_tree.specs.Shapes.{tree_over, AllIds, IsProperShape}
use Rattle.formula_store.specs.declared.id.FormulaId.{FormulaId}
use Rattle.formula_store.specs.Nodes.{tree, IsId}
use Rattle.formula_store.specs.declared.plan.Plan.{Plan}
use Rattle.formula_store.specs.declared.plan.Plan.TheVariants.{Ready, Make, Cases}

-- the tree that the plan makes, where each id stands for its tree
abbrev pub planned_tree : (FormulaId → Tree) → Plan → Tree
planned_tree t (Ready id) = t id
planned_tree t (Make shape) = tree_over t shape
planned_tree t (Cases a b c d) = Or (both (And (both (t a) (t b))) (And (both (t c) (t d))))

-- the formulas joined
abbrev pub joined_shape : Junction → List FormulaId → Shape FormulaId
joined_shape Conjunction ids = shape.And ids
joined_shape Disjunction ids = shape.Or ids

-- the formula under a quantifier
abbrev pub quantified_shape : Quantifier → VarId → FormulaId → Shape FormulaId
quantified_shape Exists x id = shape.Ex x id
quantified_shape ForAll x id = shape.All x id

-- each id of the plan has P
abbrev pub AllPlanned : (FormulaId → Type 0) → Plan → Type 0
AllPlanned P (Ready id) = P id
AllPlanned P (Make shape) = AllIds P shape
AllPlanned P (Cases a b c d) = P a × P b × P c × P d

-- the atom of the plan, if it is one, is well formed
abbrev pub IsProperPlan : Plan → Type 0
IsProperPlan (Make shape) = IsProperShape shape
IsProperPlan _ = Unit {0}

-- the plan makes the formula over formulas of the store
pub record Plans (nodes : List (Shape FormulaId)) (f : Tree) (plan : Plan) : Type 0 where
  pub ids : AllPlanned (IsId nodes) plan
  pub proper : IsProperPlan plan
  pub same : planned_tree (tree nodes) plan ≡ f
