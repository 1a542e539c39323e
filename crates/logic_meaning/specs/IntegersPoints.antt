-- Test points of the integers (Cooper): residue classes far out, and the numbers next to the ends of intervals, over a common scale.
use Rattle.std.specs.Prelude.{ℕ, ℤ, pos, negsuc, zero, suc, ◌*◌, ◌/◌, neg_ℤ, unsigned_abs, List, [], ◌∷◌, ◌++◌, map, flat_map, length}
use Rattle.exact_numbers.specs.Divides.{lcm_of}
use Rattle.logic_meaning.specs.Form.{Form, coefficient, without, scale, plus}
use Rattle.logic_meaning.specs.Atom.{Atom, Compare, Congruent, Relation, Equals, Differs, Below, AtMost, Above, AtLeast, mirrored, form_of}
use Rattle.logic_meaning.specs.Answer.{Place, Exact, Periodic, same_place}
use Rattle.logic_meaning.specs.Tree.{Tree}
use Rattle.logic_meaning.specs.Distinct.{distinct}
use Rattle.logic_meaning.specs.Atoms.{atoms_of}
use Rattle.logic_meaning.specs.Side.{turned}
use Rattle.logic_meaning.specs.declared.side.Side.{Side}
use Rattle.logic_meaning.specs.declared.side.Side.TheVariants.{Lower, Upper}

-- the least common multiple of two positive numbers
abbrev pub common_multiple : ℕ → ℕ → ℕ
common_multiple m n = unsigned_abs (lcm_of (pos m) (pos n))

-- the least common multiple of n and of the absolute value of a coefficient that is not 0
abbrev pub with_coefficient : ℤ → ℕ → ℕ
with_coefficient (pos zero) n = n
with_coefficient (pos (suc a)) n = common_multiple (suc a) n
with_coefficient (negsuc a) n = common_multiple (suc a) n

-- the scale: the least common multiple of the absolute values of all coefficients of x
abbrev pub scale_of : ℕ → List Atom → ℕ
scale_of x [] = 1
scale_of x (a ∷ atoms) = with_coefficient (coefficient x (form_of a)) (scale_of x atoms)

-- the least common multiple of n and of the modulus m of a congruence, multiplied as x is to the scale l
abbrev pub with_modulus : ℕ → ℕ → ℤ → ℕ → ℕ
with_modulus l m (pos zero) n = n
with_modulus l m (pos (suc a)) n = common_multiple (m * (l / suc a)) n
with_modulus l m (negsuc a) n = common_multiple (m * (l / suc a)) n

-- the span: the least common multiple of the scale l and of the multiplied moduli of all congruences
abbrev pub span_of : ℕ → ℕ → List Atom → ℕ
span_of l x [] = l
span_of l x (Compare r f ∷ atoms) = span_of l x atoms
span_of l x (Congruent holds m f ∷ atoms) = with_modulus l m (coefficient x f) (span_of l x atoms)

-- first, first + 1, .., so many
abbrev pub counted : ℕ → ℕ → List ℕ
counted first zero = []
counted first (suc n) = first ∷ counted (suc first) n

-- a number as the side sees it: away from its infinity is up
abbrev pub signed : Side → ℤ → ℤ
signed Lower z = z
signed Upper z = neg_ℤ z

-- The number before the first at which x relation v begins to be true, for the relation as the side sees it.
abbrev pub starts_of : Side → Relation → Form → List Form
starts_of side Equals v = plus v (signed side (negsuc 0)) ∷ []
starts_of side Differs v = v ∷ []
starts_of side Below v = []
starts_of side AtMost v = []
starts_of side Above v = v ∷ []
starts_of side AtLeast v = plus v (signed side (negsuc 0)) ∷ []

-- The same of l * x for a * x + t relation 0; a negative a mirrors the relation.
abbrev pub comparison_starts : Side → ℕ → ℤ → Relation → Form → List Form
comparison_starts side l (pos zero) r t = []
comparison_starts side l (pos (suc n)) r t = starts_of side (turned side r) (scale (neg_ℤ (pos (l / suc n))) t)
comparison_starts side l (negsuc n) r t = starts_of side (turned side (mirrored r)) (scale (pos (l / suc n)) t)

-- the same of l * x in an atom; a congruence gives none
abbrev pub atom_starts : Side → ℕ → ℕ → Atom → List Form
atom_starts side l x (Compare r f) = comparison_starts side l (coefficient x f) r (without x f)
atom_starts side l x (Congruent holds m f) = []

-- the residue classes of a period towards the infinity of the side
abbrev pub class_points : Side → ℕ → List Place
class_points side period = map (λ j. Periodic (signed side (pos j)) (signed side (neg_ℤ (pos period)))) (counted 1 period)

-- the d numbers after b, over l
abbrev pub next_points : Side → ℕ → ℕ → Form → List Place
next_points side l d b = map (λ j. Exact (plus b (signed side (pos j))) l) (counted 1 d)

-- the points of some atoms with the scale l and the span d
abbrev pub points_with : Side → ℕ → ℕ → ℕ → List Atom → List Place
points_with side l d x atoms = class_points side (d / l) ++ flat_map (next_points side l d) (flat_map (atom_starts side l x) atoms)

-- the span of a name in a list of atoms, over their scale
abbrev pub own_span : ℕ → List Atom → ℕ
own_span x atoms = span_of (scale_of x atoms) x atoms

-- how many test points a list of atoms gives, equal points counted as often as they are formed
abbrev pub integer_count_of : Side → ℕ → List Atom → ℕ
integer_count_of side x atoms = length (points_with side (scale_of x atoms) (own_span x atoms) x atoms)

-- the test points of a name in a list of atoms; an equal point stands once
abbrev pub integer_points_of : Side → ℕ → List Atom → List Place
integer_points_of side x atoms = distinct same_place (points_with side (scale_of x atoms) (own_span x atoms) x atoms)

-- how many test points a name has in a formula, equal points counted as often as they are formed
abbrev pub integer_count : Side → ℕ → Tree → ℕ
integer_count side x f = integer_count_of side x (atoms_of f)
