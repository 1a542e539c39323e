-- Steps that test points take from a formula: each point is put into the formula that the points before it leave.
use Rattle.std.specs.Prelude.{◌≡◌, true, List, [], ◌∷◌}
use Rattle.logic_meaning.specs.Context.{Context}
use Rattle.logic_meaning.specs.Tree.{Tree}
use Rattle.formula_laws.specs.Equivalence.{InContext}
use Rattle.logic_meaning.specs.Answers.{Step}
use Rattle.logic_meaning.specs.BothTheories.{IsPlaceIn}
use Rattle.sample_reference.specs.Traced.{after_step, after_within}
use Rattle.test_points.specs.declared.points.TestPoint.{TestPoint}
use Rattle.test_points.specs.Points.{place_of, IsTestPoint}

-- the point put into the formula
abbrev pub taken : Tree → TestPoint → Step
taken f t = record { name = t.name.number; place = place_of t; branch = f }

-- the steps of the points, the first one first
abbrev pub taken_from : Context → Tree → List TestPoint → List Step
taken_from c f [] = []
taken_from c f (t ∷ ts) = taken f t ∷ taken_from c (after_step c (taken f t)) ts

-- The point is well formed, its place is one of the theory, and the formula is one of the theory. No number that the step forms passes
-- the limit.
pub record IsTakable (c : Context) (f : Tree) (t : TestPoint) : Type 0 where
  pub point : IsTestPoint t
  pub place : IsPlaceIn c (place_of t)
  pub inside : InContext c f
  pub within : after_within c (taken f t) ≡ true

-- each of them, where those before it have been taken
abbrev pub AreTakable : Context → Tree → List TestPoint → Type 0
AreTakable c f [] = Unit {0}
AreTakable c f (t ∷ ts) = IsTakable c f t × AreTakable c (after_step c (taken f t)) ts
