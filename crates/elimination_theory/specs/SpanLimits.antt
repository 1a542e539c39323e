-- Numbers of a step within a limit, wherever those of its parts are.
use Rattle.std.specs.Prelude.{◌≡◌, ℕ, pos, ◌*◌, ◌/◌, unsigned_abs, List}
use Rattle.exact_numbers.specs.Limit.{InLimit}
use Rattle.logic_meaning.specs.Context.{Context, Fields, Integers}
use Rattle.logic_meaning.specs.Some.{EachOf}
use Rattle.logic_meaning.specs.Form.{coefficient}
use Rattle.logic_meaning.specs.Atom.{Atom, Compare, Congruent, form_of}
use Rattle.formula_laws.specs.TheoryAtoms.{AtomIn}
use Rattle.logic_meaning.specs.Answer.{Place}
use Rattle.logic_meaning.specs.declared.side.Side.{Side}
use Rattle.logic_meaning.specs.IntegersPoints.{scale_of, own_span}
use Rattle.logic_meaning.specs.BothTheories.{test_points}
use Rattle.logic_meaning.specs.Overflow.{PlaceWithin, NumbersWithin}

-- an atom without x stays, and forms none
abbrev pub AtomWithin : ℕ → Place → Atom → Type 0
AtomWithin x s a = ¬ (coefficient x (form_of a) ≡ pos 0) → NumbersWithin x s a

-- the scale, the multiplied moduli and the span are within the limit where the span is (`span_limits_all`)
abbrev pub SpanWithin : Context → ℕ → List Atom → Type 0
SpanWithin Fields x atoms = Unit {0}
SpanWithin Integers x atoms = InLimit (pos (own_span x atoms))

-- no number that the step for x forms passes the limit
pub record StepWithin (c : Context) (side : Side) (x : ℕ) (atoms : List Atom) : Type 0 where
  pub span : SpanWithin c x atoms
  pub points : EachOf PlaceWithin (test_points c side x atoms)
  pub substitutions : EachOf (λ s. EachOf (AtomWithin x s) atoms) (test_points c side x atoms)

-- the modulus of a congruence in x, multiplied as x is to the scale l
abbrev pub MultipliedWithin : ℕ → ℕ → Atom → Type 0
MultipliedWithin x l (Compare r f) = Unit {0}
MultipliedWithin x l (Congruent holds m f) = ¬ (coefficient x f ≡ pos 0) → InLimit (pos (m * (l / unsigned_abs (coefficient x f))))

-- Where the span is within the limit, so are the scale and each multiplied modulus: they divide it.
pub record SpanLimitsAll (x : ℕ) (atoms : List Atom) : Type 0 where
  pub scale : InLimit (pos (scale_of x atoms))
  pub moduli : EachOf (MultipliedWithin x (scale_of x atoms)) atoms

abbrev pub SpanLimits : Type 0
SpanLimits = (x : ℕ) (atoms : List Atom) → EachOf (AtomIn Integers) atoms → InLimit (pos (own_span x atoms)) → SpanLimitsAll x atoms
