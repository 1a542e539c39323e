-- The theorems of elimination over the integers, as statements.
use Rattle.std.specs.Prelude.{◌+◌, length, flat_map, ◌*◌, ◌/◌, unsigned_abs, ◌≡◌, ℕ, ℤ, pos, ◌*ℤ◌, ◌<◌, ◌↔◌, List}
use Rattle.exact_numbers.specs.Divides.{Divides}
use Rattle.logic_meaning.specs.Context.{Integers}
use Rattle.logic_meaning.specs.Point.{Point, Of}
use Rattle.logic_meaning.specs.Formula.{Ex, One}
use Rattle.logic_meaning.specs.Every.{Every}
use Rattle.logic_meaning.specs.Some.{SomeOf, EachOf}
use Rattle.logic_meaning.specs.Plain.{IsPlain}
use Rattle.logic_meaning.specs.Form.{coefficient}
use Rattle.logic_meaning.specs.Atom.{form_of, Atom, Compare, Congruent}
use Rattle.formula_laws.specs.TheoryAtoms.{AtomIn}
use Rattle.logic_meaning.specs.Answer.{Place, Exact, AboveBy, BelowBy, PlusInfinity, MinusInfinity, Periodic, Holds}
use Rattle.logic_meaning.specs.Tree.{Tree, TrueAt}
use Rattle.formula_laws.specs.Equivalence.{InContext, Equivalent}
use Rattle.elimination_theory.specs.AtPlace.{at_place}
use Rattle.logic_meaning.specs.declared.side.Side.{Side}
use Rattle.logic_meaning.specs.IntegersSubstitution.{integer_atom, integer_guard}
use Rattle.elimination_theory.specs.IntegersTrees.{integer_substitution}
use Rattle.elimination_theory.specs.Elimination.{integer_elimination}
use Rattle.logic_meaning.specs.IntegersPoints.{scale_of, own_span, integer_count_of, atom_starts}
use Rattle.elimination_theory.specs.IntegersPointTrees.{integer_scale, integer_span, integer_points}
use Rattle.logic_meaning.specs.IntegerPlace.{IsIntegerPlace}

-- a step by the period takes the atom's form to a number of the same remainder
abbrev pub IsPeriodOf : ℕ → ℤ → Atom → Type 0
IsPeriodOf x q (Compare r f) = Unit {0}
IsPeriodOf x q (Congruent holds n f) = Divides (pos n) (coefficient x f *ℤ q)

-- the place's period, where it has one, is one of the atom
abbrev pub Suits : ℕ → Place → Atom → Type 0
Suits x (Exact e l) a = Unit {0}
Suits x (AboveBy e l) a = Unit {0}
Suits x (BelowBy e l) a = Unit {0}
Suits x PlusInfinity a = Unit {0}
Suits x MinusInfinity a = Unit {0}
Suits x (Periodic j q) a = IsPeriodOf x q a

-- The guard and an atom's substitution are true exactly where the place makes the atom true.
abbrev pub IntegerAtomIsExact : Type 0
IntegerAtomIsExact = (x : ℕ) (s : Place) (a : Atom) (p : Point ℕ) → IsIntegerPlace s → Suits x s a → Of Integers p →
    Holds Integers (at_place x s) (One a) p ↔ TrueAt Integers (integer_guard s) p × TrueAt Integers (integer_atom x s a) p

-- The guard and the substitution into a formula built by and and or are true exactly where the place makes the formula true.
abbrev pub IntegerSubstitutionIsExact : Type 0
IntegerSubstitutionIsExact = (x : ℕ) (s : Place) (f : Tree) (p : Point ℕ) → IsIntegerPlace s → Every (Suits x s) f → IsPlain f → Of Integers p →
    Holds Integers (at_place x s) f p ↔ TrueAt Integers (integer_guard s) p × TrueAt Integers (integer_substitution x s f) p

-- Each test point of a formula is such a place for each atom of it.
abbrev pub IntegerTestPointsSuit : Type 0
IntegerTestPointsSuit = (side : Side) (x : ℕ) (f : Tree) (s : Place) → InContext Integers f → SomeOf (λ t. t ≡ s) (integer_points side x f) →
    IsIntegerPlace s × Every (Suits x s) f

-- ex(x, f) is true exactly where some test point of the side makes f true, for f built by and and or.
abbrev pub IntegerTestPointsSuffice : Type 0
IntegerTestPointsSuffice = (side : Side) (x : ℕ) (f : Tree) (p : Point ℕ) → IsPlain f → InContext Integers f → Of Integers p →
    TrueAt Integers (Ex x f) p ↔ SomeOf (λ s. Holds Integers (at_place x s) f p) (integer_points side x f)

-- ex(x, f) is equivalent to the disjunction over its test points with their guards, for f built by and and or
abbrev pub IntegerEliminationIsExact : Type 0
IntegerEliminationIsExact = (side : Side) (x : ℕ) (f : Tree) → IsPlain f → InContext Integers f → Equivalent Integers (Ex x f) (integer_elimination side x f)

-- n is a multiple of c, where c is not 0
abbrev pub IsMultipleOf : ℤ → ℕ → Type 0
IsMultipleOf c n = ¬ (c ≡ pos 0) → Divides c (pos n)

-- n is a multiple of the modulus of the atom, if it is a congruence in x, multiplied as x is to the scale l
abbrev pub SpansAtom : ℕ → ℕ → ℕ → Atom → Type 0
SpansAtom x l n (Compare r f) = Unit {0}
SpansAtom x l n (Congruent holds m f) = ¬ (coefficient x f ≡ pos 0) → Divides (pos (m * (l / unsigned_abs (coefficient x f)))) (pos n)

-- The scale is positive, and the common multiples of all coefficients of x are its multiples: in a list of atoms,
abbrev pub ScaleIsLeast : Type 0
ScaleIsLeast = (x : ℕ) (atoms : List Atom) → 0 < scale_of x atoms
    × ((n : ℕ) → EachOf (λ a. IsMultipleOf (coefficient x (form_of a)) n) atoms ↔ Divides (pos (scale_of x atoms)) (pos n))

-- and in a formula.
abbrev pub IntegerScaleIsLeast : Type 0
IntegerScaleIsLeast = (x : ℕ) (f : Tree) → 0 < integer_scale x f
    × ((n : ℕ) → Every (λ a. IsMultipleOf (coefficient x (form_of a)) n) f ↔ Divides (pos (integer_scale x f)) (pos n))

-- The span is positive, and the common multiples of the scale and of all moduli as they are multiplied are its multiples:
-- in a list of atoms,
abbrev pub SpanIsLeast : Type 0
SpanIsLeast = (x : ℕ) (atoms : List Atom) → EachOf (AtomIn Integers) atoms → 0 < own_span x atoms
    × ((n : ℕ) → (Divides (pos (scale_of x atoms)) (pos n) × EachOf (SpansAtom x (scale_of x atoms) n) atoms) ↔ Divides (pos (own_span x atoms)) (pos n))

-- and in a formula.
abbrev pub IntegerSpanIsLeast : Type 0
IntegerSpanIsLeast = (x : ℕ) (f : Tree) → InContext Integers f → 0 < integer_span x f
    × ((n : ℕ) → (Divides (pos (integer_scale x f)) (pos n) × Every (SpansAtom x (integer_scale x f) n) f) ↔ Divides (pos (integer_span x f)) (pos n))

-- There are as many test points as the period, and as many as the span for each atom at which a comparison starts.
abbrev pub IntegerPointsAreCounted : Type 0
IntegerPointsAreCounted = (side : Side) (x : ℕ) (atoms : List Atom) → integer_count_of side x atoms ≡ own_span x atoms / scale_of x atoms
    + own_span x atoms * length (flat_map (atom_starts side (scale_of x atoms) x) atoms)
