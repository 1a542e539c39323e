-- The program's steps.
use Rattle.std.specs.Prelude.{List, map, All, Option, Some, None}
use Rattle.std.specs.declared.vec.Vec.{Vec}
use Rattle.std.specs.declared.alloc.Global.{Global}
use Rattle.logic_meaning.specs.Context.{Context}
use Rattle.formula_laws.specs.Equivalence.{InContext}
use Rattle.logic_meaning.specs.Answers as meaning
use Rattle.logic_meaning.specs.BothTheories.{IsPlaceIn}
use Rattle.nnf_trees.specs.Nnfs.{nnf_of, IsProper}
use Rattle.test_points.specs.Points.{place_of, IsTestPoint}
use Rattle.plain_samples.specs.declared.step.Step.{Step}

-- the step as it is meant
abbrev pub step_of : Step → meaning.Step
step_of s = record { name = s.point.name.number; place = place_of s.point; branch = nnf_of s.branch }

abbrev pub steps_of : List Step → List meaning.Step
steps_of ss = map step_of ss

-- the steps, where there are some
abbrev pub steps_seen : Option (Vec Step Global) → Option (List meaning.Step)
steps_seen (Some v) = Some (steps_of v.items)
steps_seen None = None

-- a well-formed test point whose place is one of the theory, and a branch of the theory with well-formed atoms
pub record IsStep (c : Context) (s : Step) : Type 0 where
  pub point : IsTestPoint s.point
  pub place : IsPlaceIn c (place_of s.point)
  pub proper : IsProper s.branch
  pub inside : InContext c (nnf_of s.branch)

-- each of the steps, where there are some
abbrev pub AreSteps : Context → Option (Vec Step Global) → Type 0
AreSteps c (Some v) = All (IsStep c) v.items
AreSteps c None = Unit {0}
