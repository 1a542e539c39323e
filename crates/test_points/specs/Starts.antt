-- The first whole number behind the end of an interval.
use Rattle.std.specs.Prelude.{ℕ, ℤ, pos, ◌+ℤ◌, List, map, flat_map, Bool, nat_lt, length, Option, Some, None}
use Rattle.logic_meaning.specs.Atom.{Atom, Relation, Equals, Differs, Below, AtMost, Above, AtLeast}
use Rattle.logic_meaning.specs.declared.side.Side.{Side}
use Rattle.logic_meaning.specs.IntegersPoints.{signed, counted, starts_of, next_points, atom_starts}
use Rattle.logic_meaning.specs.Form.{Form}
use Rattle.logic_meaning.specs.Answer.{Place, Exact}

-- by how much it lies behind the end at which the relation begins to be true, for the relation as the side sees it
abbrev pub first_step : Relation → Option ℤ
first_step Equals = Some (pos 0)
first_step Differs = Some (pos 1)
first_step Below = None
first_step AtMost = None
first_step Above = Some (pos 1)
first_step AtLeast = Some (pos 0)

-- the atom has an end that lies to the side
abbrev pub has_end : Side → ℕ → Atom → Bool
has_end side x a = nat_lt 0 (length (atom_starts side 1 x a))

-- the terms of a form over l, with so many constants from the first on, as the side sees them
abbrev pub run_of : Side → ℕ → Form → ℤ → ℕ → List Place
run_of side l f first n = map (λ j. Exact (record { terms = f.terms; constant = signed side (first +ℤ pos j) }) l) (counted 0 n)

-- the numbers beside the end at which the relation, as the side sees it, begins to be true of l * x and the form
abbrev pub beside_end : Side → ℕ → ℕ → Relation → Form → List Place
beside_end side l d r v = flat_map (next_points side l d) (starts_of side r v)

-- the numbers beside the end of an atom's interval that lies to the side
abbrev pub beside_atom : Side → ℕ → ℕ → ℕ → Atom → List Place
beside_atom side l d x a = flat_map (next_points side l d) (atom_starts side l x a)
