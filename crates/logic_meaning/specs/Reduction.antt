-- A form divided by a number, and a form modulo a number. Both are of all whole numbers, however large.
use Rattle.std.specs.Prelude.{ℤ, pos, ◌≤ℤ◌, ◌<ℤ◌, List, [], ◌∷◌, int_div, if◌then◌else◌}
use Rattle.std.specs.Ordering.{int_eq}
use Rattle.exact_numbers.specs.Divides.{residue_of}
use Rattle.logic_meaning.specs.Form.{Form, Term}

-- each coefficient divided by d
abbrev pub quotients : ℤ → List Term → List Term
quotients d [] = []
quotients d (t ∷ ts) = record { times = int_div t.times d; name = t.name } ∷ quotients d ts

-- each number divided by d
unfoldable pub quotient : Form → ℤ → Form
quotient f d = record { terms = quotients d f.terms; constant = int_div f.constant d }

-- each coefficient modulo m, without the names whose coefficient becomes 0
abbrev pub residues : ℤ → List Term → List Term
residues m [] = []
residues m (t ∷ ts) = if int_eq (residue_of t.times m) (pos 0) then residues m ts else record { times = residue_of t.times m; name = t.name } ∷ residues m ts

-- each number modulo m, without the names whose coefficient becomes 0
unfoldable pub residue_form : Form → ℤ → Form
residue_form f m = record { terms = residues m f.terms; constant = residue_of f.constant m }

-- each number is from 0 up to m - 1
abbrev pub AllReduced : ℤ → List ℤ → Type 0
AllReduced m [] = Unit {0}
AllReduced m (x ∷ xs) = ((pos 0 ≤ℤ x) × (x <ℤ m)) × AllReduced m xs
