-- Which numbers a step of elimination forms, against the limit of exact_numbers: the span, those of the test points, and those
-- of their substitution into each atom. What bringing an atom to normal form forms is not meant here.
use Rattle.std.specs.Prelude.{ℕ, pos, ◌*◌, ◌*ℤ◌}
use Rattle.exact_numbers.specs.Limit.{InLimit}
use Rattle.logic_meaning.specs.Form.{Form, coefficient, without}
use Rattle.logic_meaning.specs.Combining.{AddWithin, CombinesWithin}
use Rattle.logic_meaning.specs.Atom.{Atom, Compare, Congruent, form_of}
use Rattle.logic_meaning.specs.Answer.{Place, Exact, AboveBy, BelowBy, PlusInfinity, MinusInfinity, Periodic}

-- each number of the form is within the limit
pub record FormWithin (f : Form) : Type 0 where
  pub coefficients : (y : ℕ) → InLimit (coefficient y f)
  pub constant_within : InLimit f.constant

-- each number of the place is
abbrev pub PlaceWithin : Place → Type 0
PlaceWithin (Exact e d) = FormWithin e × InLimit (pos d)
PlaceWithin (AboveBy e d) = FormWithin e × InLimit (pos d)
PlaceWithin (BelowBy e d) = FormWithin e × InLimit (pos d)
PlaceWithin PlusInfinity = Unit {0}
PlaceWithin MinusInfinity = Unit {0}
PlaceWithin (Periodic j q) = InLimit j × InLimit q

-- the modulus of a congruence, multiplied as its form is
abbrev pub ModulusWithin : ℕ → Atom → Type 0
ModulusWithin d (Compare r f) = Unit {0}
ModulusWithin d (Congruent holds n f) = InLimit (pos (d * n))

-- the numbers of the form with e/d for x, and of the modulus
abbrev pub FormAtWithin : ℕ → Form → ℕ → Atom → Type 0
FormAtWithin x e d a = CombinesWithin (coefficient x (form_of a)) e (pos d) (without x (form_of a)) × ModulusWithin d a

-- the numbers that an atom with x forms at the place; far out a comparison forms none
abbrev pub NumbersWithin : ℕ → Place → Atom → Type 0
NumbersWithin x (Exact e d) a = FormAtWithin x e d a
NumbersWithin x (AboveBy e d) a = FormAtWithin x e d a
NumbersWithin x (BelowBy e d) a = FormAtWithin x e d a
NumbersWithin x PlusInfinity a = Unit {0}
NumbersWithin x MinusInfinity a = Unit {0}
NumbersWithin x (Periodic j q) (Compare r f) = Unit {0}
NumbersWithin x (Periodic j q) (Congruent holds n f) = AddWithin (coefficient x f *ℤ j) f.constant
