-- A value that passes the limit at some point of a grid.
use Rattle.std.specs.Prelude.{ℕ, ◌<◌, pos}
use Rattle.logic_meaning.specs.Atom.{Atom, form_of}
use Rattle.logic_meaning.specs.Formula.{One}
use Rattle.logic_meaning.specs.Sizes.{subtrees}
use Rattle.logic_meaning.specs.Some.{Among}
use Rattle.logic_meaning.specs.Tree.{Tree}
use Rattle.logic_meaning.specs.Terms.{ValuePasses}
use Rattle.program_meaning.specs.Scales.{choice, size}
use Rattle.program_meaning.specs.Frames.{Frame}

-- a number formed for the value of an atom of the formula passes the limit at a point of the grid
pub record SomePointPasses (f : Tree) (grid : Frame) : Type 0 where
  pub index : ℕ
  pub inside : index < size grid.scales
  pub atom : Atom
  pub among : Among (subtrees f) (One atom)
  pub passes : ValuePasses (form_of atom) (choice (λ _. pos 0) grid.scales index) grid.denominator
