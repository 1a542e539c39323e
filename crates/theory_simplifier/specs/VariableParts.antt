-- The variable part of an atom, by which the atoms that can merge with it or decide it are told.
use Rattle.std.specs.Prelude.{ℕ, ℤ, int_lt, pos, nat_abs, ◌+◌, ◌*◌, ◌%◌, ◌^◌, List, [], ◌∷◌, if◌then◌else◌}
use Rattle.std.specs.Ordering.{int_eq}
use Rattle.exact_numbers.specs.Divides.{content_of}
use Rattle.logic_meaning.specs.Form.{Form, Term}
use Rattle.logic_meaning.specs.Atom.{Atom, Compare, Congruent}
use Rattle.logic_meaning.specs.Terms.{coefficients}
use Rattle.logic_meaning.specs.Reduction.{quotients}

-- the terms divided by their content, if that is not 0
abbrev pub part_terms : List Term → List Term
part_terms ts = if int_eq (content_of (coefficients ts)) (pos 0) then ts else quotients (content_of (coefficients ts)) ts

-- of a comparison its divided terms with the constant 0, of a congruence its terms with its modulus as the constant
abbrev pub part_of : Atom → Form
part_of (Compare r f) = record { terms = part_terms f.terms; constant = pos 0 }
part_of (Congruent b m f) = record { terms = f.terms; constant = pos m }

-- a number with another one mixed in
unfoldable pub mixed : ℕ → ℕ → ℕ
mixed key next = (key * 1000003 % 2 ^ 64 + next) % 2 ^ 64

-- the last 64 bits of the absolute value
abbrev pub magnitude : ℤ → ℕ
magnitude n = nat_abs n % 2 ^ 64

-- 1 for a negative number, else 0
abbrev pub sign_of : ℤ → ℕ
sign_of n = if int_lt n (pos 0) then 1 else 0

-- a number of some terms and another one
abbrev pub number_from : ℕ → List Term → ℕ
number_from n [] = n
number_from n (t ∷ ts) = number_from (mixed (mixed (mixed n t.name) (sign_of t.times)) (magnitude t.times)) ts

-- a number of the variable part
abbrev pub part_number : Atom → ℕ
part_number a = number_from (magnitude (part_of a).constant) (part_of a).terms
