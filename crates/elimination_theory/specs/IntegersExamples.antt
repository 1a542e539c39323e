-- Examples over the integers that compute, and definitions that would be wrong. The names x and a are the numbers 0 and 1.
use Rattle.std.specs.Prelude.{◌≡◌, ℕ, ℤ, pos, negsuc, [], ◌∷◌, flat_map, true}
use Rattle.logic_meaning.specs.Context.{Integers}
use Rattle.logic_meaning.specs.Point.{Point, Of}
use Rattle.logic_meaning.specs.Formula.{Ex, One, And, also, none}
use Rattle.logic_meaning.specs.Every.{Every}
use Rattle.logic_meaning.specs.Some.{SomeOf}
use Rattle.logic_meaning.specs.Plain.{IsPlain}
use Rattle.logic_meaning.specs.Form.{Form, Term}
use Rattle.logic_meaning.specs.Atom.{Compare, Congruent, Equals, Above, AtMost}
use Rattle.logic_meaning.specs.Answer.{Place, Exact, Periodic, Holds}
use Rattle.logic_meaning.specs.Tree.{Tree, TrueAt}
use Rattle.formula_laws.specs.Equivalence.{InContext}
use Rattle.logic_meaning.specs.Atoms.{atoms_of}
use Rattle.logic_meaning.specs.declared.side.Side.{Side}
use Rattle.logic_meaning.specs.declared.side.Side.TheVariants.{Lower, Upper}
use Rattle.elimination_theory.specs.AtPlace.{at_place}
use Rattle.logic_meaning.specs.IntegersSubstitution.{integer_guard}
use Rattle.elimination_theory.specs.IntegersTrees.{integer_substitution}
use Rattle.logic_meaning.specs.IntegersPoints.{next_points, atom_starts, points_with}
use Rattle.elimination_theory.specs.IntegersPointTrees.{integer_scale, integer_span, integer_points}
use Rattle.elimination_theory.specs.IntegersTheorems.{Suits}
use Rattle.logic_meaning.specs.IntegerPlace.{IsIntegerPlace}

-- n * x
abbrev pub x_term : ℤ → Term
x_term n = record { times = n; name = 0 }

-- n * a
abbrev pub a_term : ℤ → Term
a_term n = record { times = n; name = 1 }

-- a + n
abbrev pub a_plus : ℤ → Form
a_plus n = record { terms = a_term (pos 1) ∷ []; constant = n }

-- 2 * x = a
abbrev pub two_x_is_a : Tree
two_x_is_a = One (Compare Equals (record { terms = x_term (pos 2) ∷ a_term (negsuc 0) ∷ []; constant = pos 0 }))

-- x > a and 2 divides x
abbrev pub even_above_a : Tree
even_above_a = And (also (One (Compare Above (record { terms = x_term (pos 1) ∷ a_term (negsuc 0) ∷ []; constant = pos 0 })))
    (also (One (Congruent true 2 (record { terms = x_term (pos 1) ∷ []; constant = pos 0 }))) none))

-- x <= a
abbrev pub at_most_a : Tree
at_most_a = One (Compare AtMost (record { terms = x_term (pos 1) ∷ a_term (negsuc 0) ∷ []; constant = pos 0 }))

-- 2 * x = a has the scale 2 and the span 2, on the lower side the points of the class of 1, a/2 and (a + 1)/2, on the upper the mirror image
abbrev pub PointsOfTwoXIsA : Type 0
PointsOfTwoXIsA = (integer_scale 0 two_x_is_a ≡ 2) × (integer_span 0 two_x_is_a ≡ 2)
    × (integer_points Lower 0 two_x_is_a ≡ Periodic (pos 1) (negsuc 0) ∷ Exact (a_plus (pos 0)) 2 ∷ Exact (a_plus (pos 1)) 2 ∷ [])
    × (integer_points Upper 0 two_x_is_a ≡ Periodic (negsuc 0) (pos 1) ∷ Exact (a_plus (pos 0)) 2 ∷ Exact (a_plus (negsuc 0)) 2 ∷ [])

-- at a/2 the equation becomes 2 * a - 2 * a = 0, and the guard is that 2 divides a
abbrev pub SubstitutionOfTwoXIsA : Type 0
SubstitutionOfTwoXIsA =
    (integer_guard (Exact (a_plus (pos 0)) 2) ≡ One (Congruent true 2 (a_plus (pos 0))))
    × (integer_substitution 0 (Exact (a_plus (pos 0)) 2) two_x_is_a
    ≡ One (Compare Equals (record { terms = a_term (pos 2) ∷ a_term (negsuc 1) ∷ []; constant = pos 0 })))

-- x > a and 2 divides x: the scale is 1 and the span 2, so that two numbers above a are looked at
abbrev pub PointsOfEvenAboveA : Type 0
PointsOfEvenAboveA = (integer_scale 0 even_above_a ≡ 1) × (integer_span 0 even_above_a ≡ 2)
    × (integer_points Lower 0 even_above_a
    ≡ Periodic (pos 1) (negsuc 1) ∷ Periodic (pos 2) (negsuc 1) ∷ Exact (a_plus (pos 1)) 1 ∷ Exact (a_plus (pos 2)) 1 ∷ [])

-- With the scale in place of the span a number that meets a congruence would be missed.
abbrev pub SpanIsNeeded : Type 0
SpanIsNeeded = ¬ ((side : Side) (x : ℕ) (f : Tree) (p : Point ℕ) → IsPlain f → InContext Integers f → Of Integers p → TrueAt Integers (Ex x f) p →
    SomeOf (λ s. Holds Integers (at_place x s) f p) (points_with side (integer_scale x f) (integer_scale x f) x (atoms_of f)))

-- Without the guard a place that is no whole number would do.
abbrev pub GuardIsNeeded : Type 0
GuardIsNeeded = ¬ ((x : ℕ) (s : Place) (f : Tree) (p : Point ℕ) → IsIntegerPlace s → Every (Suits x s) f → IsPlain f → Of Integers p →
    TrueAt Integers (integer_substitution x s f) p → Holds Integers (at_place x s) f p)

-- Without the residue classes far out a formula that is true of all small numbers would be missed.
abbrev pub ClassesAreNeeded : Type 0
ClassesAreNeeded = ¬ ((side : Side) (x : ℕ) (f : Tree) (p : Point ℕ) → IsPlain f → InContext Integers f → Of Integers p → TrueAt Integers (Ex x f) p →
    SomeOf (λ s. Holds Integers (at_place x s) f p)
    (flat_map (next_points side (integer_scale x f) (integer_span x f)) (flat_map (atom_starts side (integer_scale x f) x) (atoms_of f))))
