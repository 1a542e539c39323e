-- Whether the numbers that a step of elimination forms are within the limit of exact_numbers, as tests that compute.
use Rattle.std.specs.Prelude.{ℕ, ◌*◌, pos, ◌*ℤ◌, Bool, true, ◌&&◌}
use Rattle.logic_meaning.specs.Context.{Context, Fields, Integers}
use Rattle.logic_meaning.specs.Formula.{One}
use Rattle.logic_meaning.specs.Form.{Form, coefficient, without}
use Rattle.logic_meaning.specs.Atom.{Atom, Compare, Congruent, form_of}
use Rattle.logic_meaning.specs.Answer.{Place, Exact, AboveBy, BelowBy, PlusInfinity, MinusInfinity, Periodic}
use Rattle.logic_meaning.specs.Tree.{Tree}
use Rattle.logic_meaning.specs.Limits.{each, is_within, place_within, sum_within, combination_within}
use Rattle.logic_meaning.specs.declared.side.Side.TheVariants.{Lower}
use Rattle.logic_meaning.specs.Atoms.{atoms_of}
use Rattle.logic_meaning.specs.Substitution.{where_zero}
use Rattle.logic_meaning.specs.IntegersPoints.{own_span}
use Rattle.logic_meaning.specs.BothTheories.{raw_atom, test_points}
use Rattle.logic_meaning.specs.Steps.{normalised}
use Rattle.logic_meaning.specs.NormalForm.{normal_atom}

-- the modulus of a congruence, multiplied as its form is
abbrev pub modulus_within : ℕ → Atom → Bool
modulus_within d (Compare r f) = true
modulus_within d (Congruent holds n f) = is_within (pos (d * n))

-- the numbers of the atom's form with e/d for x, and of the modulus
abbrev pub form_at_within : ℕ → Form → ℕ → Atom → Bool
form_at_within x e d a = combination_within (coefficient x (form_of a)) e (pos d) (without x (form_of a)) && modulus_within d a

-- the numbers that an atom with x forms at the place; far out a comparison forms none
abbrev pub numbers_within : ℕ → Place → Atom → Bool
numbers_within x (Exact e d) a = form_at_within x e d a
numbers_within x (AboveBy e d) a = form_at_within x e d a
numbers_within x (BelowBy e d) a = form_at_within x e d a
numbers_within x PlusInfinity a = true
numbers_within x MinusInfinity a = true
numbers_within x (Periodic j q) (Compare r f) = true
numbers_within x (Periodic j q) (Congruent holds n f) = sum_within (coefficient x f *ℤ j) f.constant

-- the constant of a normal form: its other numbers are divided, or are residues
abbrev pub normal_within : Tree → Bool
normal_within (One a) = is_within (form_of a).constant
normal_within f = true

-- the numbers that an atom forms at the place and in normal form; an atom without x stays, and forms none
abbrev pub atom_within : Context → ℕ → Place → Atom → Bool
atom_within c x s a = where_zero (coefficient x (form_of a)) true (numbers_within x s a && normal_within (normalised (normal_atom c) (raw_atom c x s a)))

-- the span, and with it the scale and the multiplied moduli, which divide it (`span_limits_all`)
abbrev pub span_within : Context → ℕ → Tree → Bool
span_within Fields x f = true
span_within Integers x f = is_within (pos (own_span x (atoms_of f)))

-- the numbers of the test points of x in the formula, and those of their substitution
abbrev pub step_within : Context → ℕ → Tree → Bool
step_within c x f = each (λ s. place_within s && each (atom_within c x s) (atoms_of f)) (test_points c Lower x (atoms_of f))
