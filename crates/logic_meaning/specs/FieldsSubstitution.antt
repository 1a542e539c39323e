-- A name put at a place of the ordered fields (Loos and Weispfenning): the formula that results says nothing of infinitesimals.
use Rattle.std.specs.Prelude.{ℕ, suc, zero, ◌<◌, ℤ, pos, negsuc, neg_ℤ}
use Rattle.logic_meaning.specs.Formula.{Yes, No, One}
use Rattle.logic_meaning.specs.Form.{Form, coefficient}
use Rattle.logic_meaning.specs.Atom.{Atom, Compare, Congruent, Relation, Equals, Differs, Below, AtMost, Above, AtLeast}
use Rattle.logic_meaning.specs.Answer.{Place, Exact, AboveBy, BelowBy, PlusInfinity, MinusInfinity, Periodic}
use Rattle.logic_meaning.specs.Tree.{Tree}
use Rattle.logic_meaning.specs.Substitution.{form_at, beyond, exactly}

-- what z relation 0 says where z is infinitesimally greater than the value of v
abbrev pub just_above : Relation → Form → Tree
just_above Equals v = No
just_above Differs v = Yes
just_above Below v = One (Compare Below v)
just_above AtMost v = One (Compare Below v)
just_above Above v = One (Compare AtLeast v)
just_above AtLeast v = One (Compare AtLeast v)

-- what z relation 0 says where z is infinitesimally less than the value of v
abbrev pub just_below : Relation → Form → Tree
just_below Equals v = No
just_below Differs v = Yes
just_below Below v = One (Compare AtMost v)
just_below AtMost v = One (Compare AtMost v)
just_below Above v = One (Compare Above v)
just_below AtLeast v = One (Compare Above v)

-- f relation 0, where the value of v is f's at the place, and f grows by a with x: x is infinitesimally greater
abbrev pub beside : ℤ → Relation → Form → Form → Tree
beside (pos zero) r f v = One (Compare r f)
beside (pos (suc n)) r f v = just_above r v
beside (negsuc n) r f v = just_below r v

-- a comparison with x at the place; an atom without x stays
abbrev pub field_comparison : ℕ → Place → Relation → Form → Tree
field_comparison x (Exact e d) r f = exactly (coefficient x f) r f (form_at x e d f)
field_comparison x (AboveBy e d) r f = beside (coefficient x f) r f (form_at x e d f)
field_comparison x (BelowBy e d) r f = beside (neg_ℤ (coefficient x f)) r f (form_at x e d f)
field_comparison x MinusInfinity r f = beyond (coefficient x f) r f
field_comparison x PlusInfinity r f = beyond (neg_ℤ (coefficient x f)) r f
field_comparison x (Periodic a q) r f = One (Compare r f)

-- an atom with x at the place
abbrev pub field_atom : ℕ → Place → Atom → Tree
field_atom x s (Compare r f) = field_comparison x s r f
field_atom x s (Congruent holds n f) = One (Congruent holds n f)

-- the places of the ordered fields: those over a positive denominator, and the infinities
abbrev pub IsFieldPlace : Place → Type 0
IsFieldPlace (Exact e d) = 0 < d
IsFieldPlace (AboveBy e d) = 0 < d
IsFieldPlace (BelowBy e d) = 0 < d
IsFieldPlace PlusInfinity = Unit {0}
IsFieldPlace MinusInfinity = Unit {0}
IsFieldPlace (Periodic a q) = ⊥
