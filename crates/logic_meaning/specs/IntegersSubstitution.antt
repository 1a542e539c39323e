-- A name put at a place of the integers (Cooper): the atom that results, and the guard of the place.
use Rattle.std.specs.Prelude.{ℕ, ℤ, pos, negsuc, zero, suc, ◌*◌, ◌*ℤ◌, neg_ℤ, true}
use Rattle.logic_meaning.specs.Formula.{Yes, One}
use Rattle.logic_meaning.specs.Form.{Form, coefficient, without, plus}
use Rattle.logic_meaning.specs.Atom.{Atom, Compare, Congruent}
use Rattle.logic_meaning.specs.Answer.{Place, Exact, AboveBy, BelowBy, PlusInfinity, MinusInfinity, Periodic}
use Rattle.logic_meaning.specs.Tree.{Tree}
use Rattle.logic_meaning.specs.Substitution.{form_at, beyond, exactly, where_zero}

-- a * j + t: the form a * x + t with the number j for x
abbrev pub put_number : ℕ → ℤ → Form → Form
put_number x j f = plus (without x f) (coefficient x f *ℤ j)

-- how x with the coefficient a changes the form on the way of a period: a positive period leads upwards, where x is turned round
abbrev pub along : ℤ → ℤ → ℤ
along (negsuc q) a = a
along (pos q) a = neg_ℤ a

-- An atom with x at the place; an atom without x stays. With e over l for x the form and the modulus are multiplied by l.
-- Far out in a residue class comparisons are as at an infinity, and congruences take the number of the class.
abbrev pub integer_atom : ℕ → Place → Atom → Tree
integer_atom x (Exact e l) (Compare r f) = exactly (coefficient x f) r f (form_at x e l f)
integer_atom x (Exact e l) (Congruent holds n f) = One (where_zero (coefficient x f) (Congruent holds n f) (Congruent holds (l * n) (form_at x e l f)))
integer_atom x (Periodic j q) (Compare r f) = beyond (along q (coefficient x f)) r f
integer_atom x (Periodic j q) (Congruent holds n f) = One (where_zero (coefficient x f) (Congruent holds n f) (Congruent holds n (put_number x j f)))
integer_atom x (AboveBy e l) a = One a
integer_atom x (BelowBy e l) a = One a
integer_atom x PlusInfinity a = One a
integer_atom x MinusInfinity a = One a

-- true where e over l is a whole number
abbrev pub is_whole : Form → ℕ → Tree
is_whole e zero = One (Congruent true zero e)
is_whole e (suc zero) = Yes
is_whole e (suc (suc n)) = One (Congruent true (suc (suc n)) e)

-- the condition under which the place is a whole number
abbrev pub integer_guard : Place → Tree
integer_guard (Exact e l) = is_whole e l
integer_guard (AboveBy e l) = Yes
integer_guard (BelowBy e l) = Yes
integer_guard PlusInfinity = Yes
integer_guard MinusInfinity = Yes
integer_guard (Periodic j q) = Yes
