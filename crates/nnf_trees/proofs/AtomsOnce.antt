-- The atoms of a formula, and each of them once.
use Rattle.std.proofs.Common.{◌≡◌, ℕ, Bool, true, false, [], refl, sym, subst}
use Rattle.logic_meaning.specs.Fold.{joined}
use Rattle.logic_meaning.specs.Shape.{quantified}
use Rattle.logic_meaning.specs.declared.quantifier.Quantifier.TheVariants.{Exists, ForAll}
use Rattle.logic_meaning.specs.declared.junction.Junction.TheVariants.{Conjunction, Disjunction}
use Rattle.logic_meaning.specs.Same.{same_atom}
use Rattle.logic_meaning.specs.Tree.{Tree, Trees}
use Rattle.formula_laws.proofs.Same.{atom_same, atom_alike}
use Rattle.logic_meaning.specs.Atoms.{atoms_in, atoms_in_all}
use Rattle.normal_atoms.specs.declared.atoms.Atom.{Atom}
use Rattle.normal_atoms.specs.Atoms.{atom_of, IsWellFormed}
use Rattle.logic_meaning.specs.NormalForm.{constant_tree}
use Rattle.normal_atoms.specs.contracts.atoms.AtomPartialEq.TheImpl as atoms
use Rattle.normal_atoms.proofs.Meaning.{meaning_determines}
use Rattle.formula_tree.proofs.Decided as decided
use Rattle.logic_meaning.specs.declared.junction.Junction.{Junction}
use Rattle.logic_meaning.specs.declared.quantifier.Quantifier.{Quantifier}

-- equality of atoms, as the program computes it
abbrev pub atom_eq : Atom → Atom → Bool
atom_eq a b = atoms.ghosts.eq a b

true_together : (a b : Bool) → (a ≡ true → b ≡ true) → (b ≡ true → a ≡ true) → a ≡ b
true_together true b h k = sym (h refl)
true_together false true h k = k refl
true_together false false h k = refl

-- atoms with positive moduli are equal exactly where they mean the same
pub atoms_agree : (new old : Atom) → IsWellFormed new → IsWellFormed old → atom_eq new old ≡ same_atom (atom_of old) (atom_of new)
atoms_agree new old h k =
    true_together (atom_eq new old) (same_atom (atom_of old) (atom_of new))
    (λ e. subst (λ (a : Atom). same_atom (atom_of a) (atom_of new) ≡ true) (decided.same_atom new old e) (atom_alike (atom_of new)))
    (λ e. let i = meaning_determines old new k h (atom_same (atom_of old) (atom_of new) e) in subst (λ (a : Atom). atom_eq new a ≡ true) (sym i) (decided.itself_atom new))

pub atoms_in_constant : (b : Bool) → atoms_in (constant_tree b) ≡ []
atoms_in_constant true = refl
atoms_in_constant false = refl

pub atoms_in_joined : (j : Junction) (fs : Trees) → atoms_in (joined j fs) ≡ atoms_in_all fs
atoms_in_joined Conjunction fs = refl
atoms_in_joined Disjunction fs = refl

pub atoms_in_quantified : (q : Quantifier) (y : ℕ) (f : Tree) → atoms_in (quantified q y f) ≡ atoms_in f
atoms_in_quantified Exists y f = refl
atoms_in_quantified ForAll y f = refl

-- the atoms of a formula at each way to make one
pub ruleset listed_atoms = (atoms_in_constant, atoms_in_joined, atoms_in_quantified)
