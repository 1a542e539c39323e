-- The reference sample: values for the names of the leading block, from the first case whose guard is true.
use Rattle.std.specs.Prelude.{ℕ, List, [], Option, Some, None}
use Rattle.logic_meaning.specs.Context.{Context}
use Rattle.logic_meaning.specs.Point.{Point}
use Rattle.logic_meaning.specs.Tree.{Tree}
use Rattle.logic_meaning.specs.Answers.{Step}
use Rattle.logic_meaning.specs.Measured.{Outcome, stopped, done, then_of, Overflow}
use Rattle.logic_meaning.specs.Sample.{chosen_steps}
use Rattle.logic_meaning.specs.Values.{Value}
use Rattle.logic_meaning.specs.Calculated.{values_from}

-- the values, or a number passes the limit
abbrev pub evaluated : ℕ → Option (List Value) → Outcome (Option (List Value) × ℕ)
evaluated cost (Some values) = done (Some values, cost)
evaluated cost None = stopped Overflow

-- the values of the steps, the last one first, which is that of the outermost name
abbrev pub sampled : Context → ℕ → Option (List Step) → Outcome (Option (List Value) × ℕ)
sampled c cost (Some steps) = evaluated cost (values_from c steps [])
sampled c cost None = done (None, cost)

module _ (c : Context) (limit : ℕ) where
  -- the sample of a formula at a point: nodes are counted, then the point is put in
  abbrev pub reference_sample : Point ℕ → Tree → Outcome (Option (List Value) × ℕ)
  reference_sample p f = then_of (chosen_steps c limit p f) (λ r. sampled c r.1 r.0)
