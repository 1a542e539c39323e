-- Forms and atoms whose numbers are all within the limit.
use Rattle.std.specs.Prelude.{pos, List, [], ◌∷◌}
use Rattle.exact_numbers.specs.Limit.{InLimit}
use Rattle.logic_meaning.specs.Form.{Form, Term}
use Rattle.logic_meaning.specs.Atom.{Atom, Compare, Congruent}

-- each coefficient is within the limit
abbrev pub AllInLimit : List Term → Type 0
AllInLimit [] = Unit {0}
AllInLimit (t ∷ ts) = InLimit t.times × AllInLimit ts

-- the constant and each coefficient
abbrev pub IsFormInLimit : Form → Type 0
IsFormInLimit f = InLimit f.constant × AllInLimit f.terms

-- each number of the form, and the modulus
abbrev pub IsAtomInLimit : Atom → Type 0
IsAtomInLimit (Compare r f) = IsFormInLimit f
IsAtomInLimit (Congruent holds m f) = InLimit (pos m) × IsFormInLimit f
