use Rattle.std.proofs.Common.{unsigned_abs}
use Rattle.std.proofs.Math.IntN.{pos}
use Rattle.std.specs.Prelude.{◌≤ℤ◌}
use Rattle.logic_meaning.specs.Form.{coefficient}
use Rattle.linear_forms.specs.Combinations.{IsLinear}
use Rattle.integer_shadows.proofs.Euclid.{AreSteps}
use Rattle.integer_shadows.proofs.congruences.parted.Given as goal

-- the two congruences say what they did at first
abbrev pub invariant-steps : goal.invariant-steps
invariant-steps l = record {
  class : pos 0 ≤ℤ coefficient l.name.number l.class;
  rest : pos 0 ≤ℤ coefficient l.name.number l.rest;
  linear : IsLinear l.rest;
  same : AreSteps l.modulus l.fn.class l.fn.rest l.class l.rest;
}

abbrev pub decreases-steps : goal.decreases-steps
decreases-steps l = unsigned_abs (coefficient l.name.number l.rest)
