-- Test points of the ordered fields (Loos and Weispfenning): ends of intervals, infinitesimals beside them, and an infinity.
use Rattle.std.specs.Prelude.{ℕ, suc, zero, ◌/◌, ℤ, pos, negsuc, List, [], ◌∷◌, flat_map, unsigned_abs, int_div}
use Rattle.exact_numbers.specs.Divides.{content_of}
use Rattle.logic_meaning.specs.Form.{Form, Term, coefficient, without, scale, coefficients}
use Rattle.logic_meaning.specs.Atom.{Atom, Compare, Congruent, Relation, Equals, Differs, Below, AtMost, Above, AtLeast, mirrored}
use Rattle.logic_meaning.specs.Answer.{Place, Exact, AboveBy, BelowBy, PlusInfinity, MinusInfinity, same_place}
use Rattle.logic_meaning.specs.Tree.{Tree}
use Rattle.logic_meaning.specs.Distinct.{distinct}
use Rattle.logic_meaning.specs.Atoms.{atoms_of}
use Rattle.logic_meaning.specs.Side.{turned}
use Rattle.logic_meaning.specs.declared.side.Side.{Side}
use Rattle.logic_meaning.specs.declared.side.Side.TheVariants.{Lower, Upper}

-- all numbers of a form over a denominator
abbrev pub numbers_of : Form → ℕ → List ℤ
numbers_of e d = pos d ∷ e.constant ∷ coefficients e.terms

-- the greatest common divisor of these numbers
abbrev pub divisor_of : Form → ℕ → ℕ
divisor_of e d = unsigned_abs (content_of (numbers_of e d))

-- each coefficient of the terms divided by g
abbrev pub terms_over : ℕ → List Term → List Term
terms_over g [] = []
terms_over g (t ∷ ts) = record { times = int_div t.times (pos g); name = t.name } ∷ terms_over g ts

-- each number of the form divided by g
unfoldable pub form_over : ℕ → Form → Form
form_over g e = record { terms = terms_over g e.terms; constant = int_div e.constant (pos g) }

-- e over d in lowest terms, as an exact place
abbrev pub exact_point : Form → ℕ → Place
exact_point e d = Exact (form_over (divisor_of e d) e) (d / divisor_of e d)

-- the place an infinitesimal further than e over d, away from the side
abbrev pub beside_point : Side → Form → ℕ → Place
beside_point Lower e d = AboveBy (form_over (divisor_of e d) e) (d / divisor_of e d)
beside_point Upper e d = BelowBy (form_over (divisor_of e d) e) (d / divisor_of e d)

-- The end of x relation e/d that lies to the side, for the relation as the side sees it.
abbrev pub ends_of : Side → Relation → Form → ℕ → List Place
ends_of side Equals e d = exact_point e d ∷ []
ends_of side Differs e d = beside_point side e d ∷ []
ends_of side Below e d = []
ends_of side AtMost e d = []
ends_of side Above e d = beside_point side e d ∷ []
ends_of side AtLeast e d = exact_point e d ∷ []

-- The test points of a * x + t relation 0, at -t/a; a negative a mirrors the relation.
abbrev pub comparison_points : Side → ℤ → Relation → Form → List Place
comparison_points side (pos zero) r t = []
comparison_points side (pos (suc n)) r t = ends_of side (turned side r) (scale (negsuc 0) t) (suc n)
comparison_points side (negsuc n) r t = ends_of side (turned side (mirrored r)) t (suc n)

-- the test points of x that an atom gives; a congruence gives none
abbrev pub atom_points : Side → ℕ → Atom → List Place
atom_points side x (Compare r f) = comparison_points side (coefficient x f) r (without x f)
atom_points side x (Congruent holds n f) = []

-- the infinity of the side
abbrev pub infinity_of : Side → Place
infinity_of Lower = MinusInfinity
infinity_of Upper = PlusInfinity

-- the test points of a name in a list of atoms: the infinity, then those of each atom; an equal point stands once
abbrev pub field_points_of : Side → ℕ → List Atom → List Place
field_points_of side x atoms = distinct same_place (infinity_of side ∷ flat_map (atom_points side x) atoms)

-- the test points of a name in a formula
abbrev pub field_points : Side → ℕ → Tree → List Place
field_points side x f = field_points_of side x (atoms_of f)
