-- The cases of a formula.
use Rattle.std.specs.Prelude.{◌↔◌, ℕ, List, ◌∷◌, map}
use Rattle.logic_meaning.specs.Context.{Context}
use Rattle.logic_meaning.specs.declared.junction.Junction.TheVariants.{Conjunction}
use Rattle.logic_meaning.specs.Fold.{fold_list}
use Rattle.logic_meaning.specs.Point.{Point}
use Rattle.logic_meaning.specs.Some.{EachOf}
use Rattle.logic_meaning.specs.Tree.{Tree, TrueAt}
use Rattle.elimination_theory.specs.Theorems.{IsTidy}
use Rattle.formula_tree.specs.Trees.{members}
use Rattle.formula_tree.specs.declared.shape.Shape.{Shape}
use Rattle.formula_store.specs.declared.id.FormulaId.{FormulaId}
use Rattle.formula_store.specs.Nodes.{tree, IsId}
use Rattle.branch_pruning.specs.Pruned.{SomeTrue}
use Rattle.short_answers.specs.Asking.{AreTidyIds}
use Rattle.short_answers.specs.Opposites.{EachTrue}

-- where f is true, some of the formulas is; they are tidy where f is
pub record AreCasesOf (f : Tree) (nodes : List (Shape FormulaId)) (ids : List FormulaId) : Type 0 where
  pub tidy : (c : Context) → IsTidy c f → AreTidyIds c nodes ids
  pub some : (c : Context) (p : Point ℕ) → TrueAt c f p → SomeTrue c (map (tree nodes) ids) p

-- where f is true, each of the formulas is; they are tidy where f is
pub record ArePartsOf (f : Tree) (nodes : List (Shape FormulaId)) (ids : List FormulaId) : Type 0 where
  pub are : EachOf (IsId nodes) ids
  pub tidy : (c : Context) → IsTidy c f → AreTidyIds c nodes ids
  pub each : (c : Context) (p : Point ℕ) → TrueAt c f p → EachTrue c (map (tree nodes) ids) p

-- f is true exactly where some of the formulas is; they are tidy where f is
pub record AreMembersOf (f : Tree) (nodes : List (Shape FormulaId)) (ids : List FormulaId) : Type 0 where
  pub are : EachOf (IsId nodes) ids
  pub tidy : (c : Context) → IsTidy c f → AreTidyIds c nodes ids
  pub some : (c : Context) (p : Point ℕ) → TrueAt c f p ↔ SomeTrue c (map (tree nodes) ids) p

-- each of the first formulas, in a conjunction with all of the second ones
abbrev pub each_joined : List Tree → List Tree → List Tree
each_joined fs gs = map (λ f. fold_list Conjunction (members (f ∷ gs))) fs
