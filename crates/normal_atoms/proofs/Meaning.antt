-- Well-formed atoms: their numbers are within the limit, and they are determined by what they mean.
use Rattle.std.proofs.Common.{◌≡◌, List, [], ◌∷◌, map, ap, sym, ◌∙◌, refl, arith}
use Rattle.std.specs.List.{AllByRecursion}
use Rattle.std.proofs.Math.IntN.{ℤ, pos}
use Rattle.std.specs.Prelude.{◌<ℤ◌, unsigned_abs}
use Rattle.std.proofs.lemmas.Int.{ints}
use Rattle.logic_meaning.specs.Atom as meant
use Rattle.logic_meaning.specs.Some.{EachOf}
use Rattle.logic_meaning.specs.Numbers.{IsFormInLimit, IsAtomInLimit}
use Rattle.logic_meaning.specs.Form.{Form}
use Rattle.linear_forms.specs.Combinations.{IsLinear}
use Rattle.normal_atoms.specs.declared.atoms.Rel.{Rel}
use Rattle.normal_atoms.specs.declared.atoms.Rel.TheVariants.{Equal, Differs, Less, AtMost, Greater, AtLeast}
use Rattle.normal_atoms.specs.declared.atoms.Atom.{Atom}
use Rattle.normal_atoms.specs.declared.atoms.Atom.TheVariants.{Compare, Congruent}
use Rattle.normal_atoms.specs.Atoms.{relation_of, atom_of, IsWellFormed}

-- the relation of the code
named : meant.Relation → Rel
named meant.Equals = Equal
named meant.Differs = Differs
named meant.Below = Less
named meant.AtMost = AtMost
named meant.Above = Greater
named meant.AtLeast = AtLeast

named_again : (r : Rel) → named (relation_of r) ≡ r
unfolding named
named_again Equal = refl
named_again Differs = refl
named_again Less = refl
named_again AtMost = refl
named_again Greater = refl
named_again AtLeast = refl

same_relation : (r s : Rel) → relation_of r ≡ relation_of s → r ≡ s
same_relation r s e = sym (named_again r) ∙ ap named e ∙ named_again s

same_modulus : (m n : ℤ) → pos 0 <ℤ m → pos 0 <ℤ n → unsigned_abs m ≡ unsigned_abs n → m ≡ n
same_modulus m n h k e = omega (arith, ints)

pub meaning_determines : (a b : Atom) → IsWellFormed a → IsWellFormed b → atom_of a ≡ atom_of b → a ≡ b
meaning_determines (Compare r f) (Compare s g) h k e =
    let x : relation_of r ≡ relation_of s = cc in
    let y : f ≡ g = cc in
    let q = same_relation r s x in
    λ i. Compare (q i) (y i)
meaning_determines (Compare r f) (Congruent b n g) h k e = absurd (cc)
meaning_determines (Congruent a m f) (Compare s g) h k e = absurd (cc)
meaning_determines (Congruent a m f) (Congruent b n g) h k e =
    let x : a ≡ b = cc in
    let y : f ≡ g = cc in
    let z : unsigned_abs m ≡ unsigned_abs n = cc in
    let q = same_modulus m n h.0 k.0 z in
    λ i. Congruent (x i) (q i) (y i)

form_within : (f : Form) → IsLinear f → IsFormInLimit f
form_within f l = (l.constant_within, l.within)

pub numbers_within : (a : Atom) → IsWellFormed a → IsAtomInLimit (atom_of a)
numbers_within (Compare r f) l = form_within f l
numbers_within (Congruent b m f) w = (w.1, form_within f w.2)

pub all_within : (atoms : List Atom) → AllByRecursion IsWellFormed atoms → EachOf IsAtomInLimit (map atom_of atoms)
all_within [] w = tt
all_within (a ∷ atoms) w = (numbers_within a w.0, all_within atoms w.1)
