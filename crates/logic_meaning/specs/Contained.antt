-- A number among others.
use Rattle.std.specs.Prelude.{ℕ, pos, Bool, not}
use Rattle.std.specs.Ordering.{int_eq}
use Rattle.logic_meaning.specs.Form.{coefficient}
use Rattle.logic_meaning.specs.Atom.{Atom, form_of}

-- the name stands in the atom
abbrev pub contains : Atom → ℕ → Bool
contains a x = not (int_eq (coefficient x (form_of a)) (pos 0))
