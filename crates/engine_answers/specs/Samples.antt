-- The values of a sample in the order of the block.
use Rattle.std.specs.Prelude.{◌≡◌, ℕ, List}
use Rattle.exact_numbers.specs.declared.fraction.Fraction.{Fraction}
use Rattle.logic_meaning.specs.Some.{Among, EachOf}
use Rattle.logic_meaning.specs.declared.form.VarId.{VarId}
use Rattle.sample_reference.specs.Seen.{value_of}
use Rattle.logic_meaning.specs.Values.{Value, value_names}

-- one of the values, of this name
pub record IsValueAmong (values : List Value) (name : ℕ) (v : VarId × Fraction) : Type 0 where
  pub named : (value_of v).name ≡ name
  pub among : Among values (value_of v)

-- each is one of the values, and their names are these, in their order
pub record AreInOrder (names : List ℕ) (values ordered : List Value) : Type 0 where
  pub named : value_names ordered ≡ names
  pub each : EachOf (Among values) ordered
