-- What the tests of the limit say, in words of elimination theory.
use Rattle.std.specs.Prelude.{◌≡◌, ℕ, ◌↔◌, true}
use Rattle.logic_meaning.specs.Context.{Context}
use Rattle.logic_meaning.specs.Some.{EachOf}
use Rattle.logic_meaning.specs.Tree.{Tree}
use Rattle.logic_meaning.specs.declared.side.Side.TheVariants.{Lower}
use Rattle.logic_meaning.specs.Atoms.{atoms_of}
use Rattle.logic_meaning.specs.BothTheories.{test_points}
use Rattle.logic_meaning.specs.Overflow.{PlaceWithin}
use Rattle.elimination_theory.specs.SpanLimits.{SpanWithin}
use Rattle.logic_meaning.specs.StopLimits.{span_within, step_within}
use Rattle.logic_meaning.specs.LimitsWithin.{AtomFormsWithin}

-- The tests are true exactly where the span is within the limit, and where the points of the step and their substitutions are.
pub record LimitsAreTested (c : Context) (x : ℕ) (f : Tree) : Type 0 where
  pub span : (span_within c x f ≡ true) ↔ SpanWithin c x (atoms_of f)
  pub step : (step_within c x f ≡ true) ↔ EachOf (λ s. PlaceWithin s × EachOf (AtomFormsWithin c x s) (atoms_of f)) (test_points c Lower x (atoms_of f))
