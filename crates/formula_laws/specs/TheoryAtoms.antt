-- The opposite of an atom, and which atoms are of a theory.
use Rattle.std.specs.Prelude.{◌<◌, not}
use Rattle.logic_meaning.specs.Context.{Context, Fields, Integers}
use Rattle.logic_meaning.specs.Atom.{Atom, Compare, Congruent, opposite_relation}

-- the atom of the opposite truth
abbrev pub opposite : Atom → Atom
opposite (Compare r f) = Compare (opposite_relation r) f
opposite (Congruent holds n f) = Congruent (not holds) n f

-- which atoms a theory has: no congruences over the fields, positive moduli over the integers
abbrev pub AtomIn : Context → Atom → Type 0
AtomIn c (Compare r f) = Unit {0}
AtomIn Fields (Congruent holds n f) = ⊥
AtomIn Integers (Congruent holds n f) = 0 < n
