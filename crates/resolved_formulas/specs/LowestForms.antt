-- A form with its numbers in lowest terms.
use Rattle.std.specs.Prelude.{◌≡◌, pos, ◌∷◌}
use Rattle.exact_numbers.specs.Divides.{content_of}
use Rattle.language_meaning.specs.RationalForms.{RationalForm, numbers_of}

-- no number above 1 divides the denominator and all numbers of the form
abbrev pub IsLowestForm : RationalForm → Type 0
IsLowestForm v = content_of (v.denominator ∷ numbers_of v.form) ≡ pos 1
