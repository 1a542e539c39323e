-- Two well-formed atoms of one meaning are one.
use Rattle.std.proofs.Common.{◌≡◌, refl, ap, arith}
use Rattle.std.proofs.lemmas.Int.{ints}
use Rattle.std.specs.Prelude.{pos, ◌<ℤ◌, ℤ, unsigned_abs}
use Rattle.normal_atoms.specs.declared.atoms.Rel.{Rel}
use Rattle.normal_atoms.specs.declared.atoms.Rel.TheVariants as rel
use Rattle.normal_atoms.specs.declared.atoms.Atom.{Atom}
use Rattle.normal_atoms.specs.declared.atoms.Atom.TheVariants as atom
use Rattle.normal_atoms.specs.Atoms.{atom_of, relation_of, IsWellFormed}

pub relations_tell : (r s : Rel) → relation_of r ≡ relation_of s → r ≡ s
relations_tell rel.Equal rel.Equal e = refl
relations_tell rel.Differs rel.Differs e = refl
relations_tell rel.Less rel.Less e = refl
relations_tell rel.AtMost rel.AtMost e = refl
relations_tell rel.Greater rel.Greater e = refl
relations_tell rel.AtLeast rel.AtLeast e = refl
relations_tell r s e = cc

positive_tell : (m n : ℤ) → pos 0 <ℤ m → pos 0 <ℤ n → unsigned_abs m ≡ unsigned_abs n → m ≡ n
positive_tell (pos a) (pos b) h k e = ap pos e
positive_tell m n h k e = absurd (omega (arith, ints))

pub atoms_tell : (a b : Atom) → IsWellFormed a → IsWellFormed b → atom_of a ≡ atom_of b → a ≡ b
atoms_tell (atom.Compare r f) (atom.Compare s g) p q e =
    let n : relation_of r ≡ relation_of s = cc in let d : f ≡ g = cc in λ i. atom.Compare (relations_tell r s n i) (d i)
atoms_tell (atom.Congruent holds m f) (atom.Congruent others n g) p q e =
    let h : holds ≡ others = cc in let k : unsigned_abs m ≡ unsigned_abs n = cc in let d : f ≡ g = cc in λ i. atom.Congruent (h i) (positive_tell m n p.0 q.0 k i) (d i)
atoms_tell a b p q e = cc
