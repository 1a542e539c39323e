-- What the program's atoms mean.
use Rattle.std.specs.Prelude.{◌≡◌, ℤ, pos, ◌<ℤ◌, unsigned_abs}
use Rattle.exact_numbers.specs.Limit.{InLimit}
use Rattle.logic_meaning.specs.Context as meaning
use Rattle.logic_meaning.specs.Formula.{Yes, No, One as Single}
use Rattle.logic_meaning.specs.Numbers.{IsAtomInLimit}
use Rattle.logic_meaning.specs.Tree.{Tree}
use Rattle.logic_meaning.specs.Atom as meant
use Rattle.linear_forms.specs.Combinations.{IsLinear}
use Rattle.normal_atoms.specs.declared.atoms.Context.{Context}
use Rattle.normal_atoms.specs.declared.atoms.Context.TheVariants.{Fields, Integers}
use Rattle.normal_atoms.specs.declared.atoms.Rel.{Rel}
use Rattle.normal_atoms.specs.declared.atoms.Rel.TheVariants.{Equal, Differs, Less, AtMost, Greater, AtLeast}
use Rattle.normal_atoms.specs.declared.atoms.Atom.{Atom}
use Rattle.normal_atoms.specs.declared.atoms.Atom.TheVariants.{Compare, Congruent}
use Rattle.normal_atoms.specs.declared.atoms.Normal.{Normal}
use Rattle.normal_atoms.specs.declared.atoms.Normal.TheVariants.{True, False, One}

-- the theory
abbrev pub context_of : Context → meaning.Context
context_of Fields = meaning.Fields
context_of Integers = meaning.Integers

-- the relation
abbrev pub relation_of : Rel → meant.Relation
relation_of Equal = meant.Equals
relation_of Differs = meant.Differs
relation_of Less = meant.Below
relation_of AtMost = meant.AtMost
relation_of Greater = meant.Above
relation_of AtLeast = meant.AtLeast

-- the atom
abbrev pub atom_of : Atom → meant.Atom
atom_of (Compare r f) = meant.Compare (relation_of r) f
atom_of (Congruent holds modulus form) = meant.Congruent holds (unsigned_abs modulus) form

-- the form is one of the program, so each of its numbers is within the limit, and the modulus is positive and within it
abbrev pub IsWellFormed : Atom → Type 0
IsWellFormed (Compare r f) = IsLinear f
IsWellFormed (Congruent holds modulus form) = (pos 0 <ℤ modulus) × InLimit modulus × IsLinear form

-- always true, always false, or one atom
abbrev pub tree_of : Normal → Tree
tree_of True = Yes
tree_of False = No
tree_of (One a) = Single (atom_of a)

-- the atom, if it is one, is well formed
abbrev pub IsWellFormedNormal : Normal → Type 0
IsWellFormedNormal True = Unit {0}
IsWellFormedNormal False = Unit {0}
IsWellFormedNormal (One a) = IsWellFormed a

-- a congruence is asked at whole numbers alone
abbrev pub IsAskedWhole : Atom → ℤ → Type 0
IsAskedWhole (Compare r f) denominator = Unit {0}
IsAskedWhole (Congruent holds modulus form) denominator = denominator ≡ pos 1

-- each number of a well-formed atom is within the limit
abbrev pub NumbersAreWithin : Type 0
NumbersAreWithin = (a : Atom) → IsWellFormed a → IsAtomInLimit (atom_of a)

-- well-formed atoms of one meaning are one atom
abbrev pub MeaningDeterminesAtom : Type 0
MeaningDeterminesAtom = (a b : Atom) → IsWellFormed a → IsWellFormed b → atom_of a ≡ atom_of b → a ≡ b
