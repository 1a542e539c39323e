-- A scale whose numbers are within the limit.
use Rattle.std.specs.Prelude.{ℕ, ◌*◌, ◌<◌, ◌^◌}
use Rattle.exact_numbers.specs.Limit.{InLimit}
use Rattle.program_meaning.specs.declared.scale.Scale.{Scale}
use Rattle.program_meaning.specs.Scales.{number_of}

-- each number of the scale is within the limit, as it is above the first one
pub record IsWithin (s : Scale) : Type 0 where
  pub above : (index : ℕ) → index < s.count → index * s.step < 2 ^ 127
  pub number : (index : ℕ) → index < s.count → InLimit (number_of s index)
