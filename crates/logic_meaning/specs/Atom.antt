-- Atoms: a linear form compared with 0, or congruent to 0 or not.
use Rattle.std.specs.Prelude.{◌≡◌, ℕ, ℤ, pos, ◌*ℤ◌, ◌<ℤ◌, ◌≤ℤ◌, Bool, true, false}
use Rattle.logic_meaning.specs.Point.{Point}
use Rattle.logic_meaning.specs.Form.{Form, value, coefficient}

-- how two numbers compare: equal, not equal, less, less or equal, greater, greater or equal
pub data Relation : Type 0 where
  Equals Differs Below AtMost Above AtLeast : Relation

-- a comparison of a linear form with 0, or a congruence of one, or the negation of a congruence
pub data Atom : Type 0 where
  -- form relation 0
  Compare : Relation → Form → Atom
  -- the form is congruent to 0 by the modulus: for true that it is, for false that it is not
  Congruent : Bool → ℕ → Form → Atom

-- the first number has the relation to the second
abbrev pub Relates : Relation → ℤ → ℤ → Type 0
Relates Equals a b = a ≡ b
Relates Differs a b = ¬ (a ≡ b)
Relates Below a b = a <ℤ b
Relates AtMost a b = a ≤ℤ b
Relates Above a b = b <ℤ a
Relates AtLeast a b = b ≤ℤ a

-- some whole number times n is the value of the form at the point
abbrev pub IsMultiple : ℕ → Form → Point ℕ → Type 0
IsMultiple n f p = (q : ℤ) × (value f p ≡ q *ℤ (pos n *ℤ pos p.below))

-- the atom is true at the point
abbrev pub Says : Atom → Point ℕ → Type 0
Says (Compare r f) p = Relates r (value f p) (pos 0)
Says (Congruent true n f) p = IsMultiple n f p
Says (Congruent false n f) p = ¬ (IsMultiple n f p)

-- the relation of the opposite truth
abbrev pub opposite_relation : Relation → Relation
opposite_relation Equals = Differs
opposite_relation Differs = Equals
opposite_relation Below = AtLeast
opposite_relation AtMost = Above
opposite_relation Above = AtMost
opposite_relation AtLeast = Below

-- the linear form of an atom
abbrev pub form_of : Atom → Form
form_of (Compare r f) = f
form_of (Congruent holds n f) = f

-- the name stands in the atom: its coefficient is not 0
abbrev pub Mentions : Atom → ℕ → Type 0
Mentions a x = ¬ (coefficient x (form_of a) ≡ pos 0)

-- the relation of two numbers whose signs are changed, or that change places
abbrev pub mirrored : Relation → Relation
mirrored Equals = Equals
mirrored Differs = Differs
mirrored Below = Above
mirrored AtMost = AtLeast
mirrored Above = Below
mirrored AtLeast = AtMost
