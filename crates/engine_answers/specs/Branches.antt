-- Answers with their branches, which are formulas of a store.
use Rattle.std.specs.Prelude.{◌≡◌, List, [], ◌∷◌, map, length}
use Rattle.std.specs.List.{AllByRecursion}
use Rattle.logic_meaning.specs.Context.{Context}
use Rattle.logic_meaning.specs.Tree.{Tree}
use Rattle.logic_meaning.specs.Answers.{Step}
use Rattle.formula_tree.specs.declared.shape.Shape.{Shape}
use Rattle.formula_store.specs.declared.id.FormulaId.{FormulaId}
use Rattle.formula_store.specs.Nodes.{tree}
use Rattle.test_points.specs.declared.points.TestPoint.{TestPoint}
use Rattle.test_points.specs.Points.{place_of, answer_of}
use Rattle.case_theory.specs.Samples.{answer_steps}
use Rattle.engine_answers.specs.Searches.{IsSharedTree}

-- each test point as a step, whose branch is the formula with the id beside it
abbrev pub shared_steps : List (Shape FormulaId) → List TestPoint → List FormulaId → List Step
shared_steps nodes [] ids = []
shared_steps nodes (t ∷ ts) [] = []
shared_steps nodes (t ∷ ts) (id ∷ ids) = record { name = t.name.number; place = place_of t; branch = tree nodes id } ∷ shared_steps nodes ts ids

-- the formulas of the ids are the branches of the answers: f with those after it put in
pub record AreBranches (c : Context) (nodes : List (Shape FormulaId)) (answers : List TestPoint) (f : Tree) (ids : List FormulaId) : Type 0 where
  pub each : AllByRecursion (IsSharedTree c nodes) ids
  pub count : length ids ≡ length answers
  pub steps : shared_steps nodes answers ids ≡ answer_steps c (map answer_of answers) f
