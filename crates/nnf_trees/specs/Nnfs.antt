-- The formula that a tree in negation normal form stands for, and what is known of its atoms.
use Rattle.std.specs.Prelude.{ℕ, ◌<◌, ◌^◌, List, [], ◌∷◌, map}
use Rattle.logic_meaning.specs.Formula.{Formula, Formulas, Yes, One, And, none, also}
use Rattle.logic_meaning.specs.Fold.{joined}
use Rattle.logic_meaning.specs.Shape.{quantified}
use Rattle.logic_meaning.specs.Every.{Every, EveryOf}
use Rattle.logic_meaning.specs.Atom as meant
use Rattle.logic_meaning.specs.Tree as meaning
use Rattle.normal_atoms.specs.declared.atoms.Atom.{Atom}
use Rattle.normal_atoms.specs.Atoms.{atom_of, IsWellFormed}
use Rattle.logic_meaning.specs.NormalForm.{constant_tree}
use Rattle.formula_tree.specs.Trees.{members}
use Rattle.nnf_trees.specs.declared.nnf.Nnf as code
use Rattle.nnf_trees.specs.declared.nnf.Nnf.TheOpen as layer
use Rattle.nnf_trees.specs.declared.nnf.Members as codes

-- one layer of a formula, with those of its parts in their places
abbrev pub nnf_step : layer.Nnf-F meaning.Tree meaning.Trees → meaning.Tree
nnf_step (layer.Constant b) = constant_tree b
nnf_step (layer.One a) = One (atom_of a)
nnf_step (layer.Joined j fs) = joined j fs
nnf_step (layer.Quantified q x f) = quantified q x.number f.value

abbrev pub nnfs_step : layer.Members-F meaning.Tree meaning.Trees → meaning.Trees
nnfs_step fs = members fs.list.items

-- the formula
unfoldable pub nnf_of : code.Nnf → meaning.Tree
nnf_of = code.fold-Nnf meaning.Tree meaning.Trees nnf_step nnfs_step

-- the formulas of a list
unfoldable pub nnfs_of : codes.Members → meaning.Trees
nnfs_of = codes.fold-Members meaning.Tree meaning.Trees nnf_step nnfs_step

-- ---- the program's atoms: only their places matter, so that all of them stand under and

abbrev pub Atoms : Type 0
Atoms = Formula Atom ℕ

-- the list of these
abbrev pub listed : List Atoms → Formulas Atom ℕ
listed [] = none
listed (f ∷ fs) = also f (listed fs)

abbrev pub atoms_step : layer.Nnf-F Atoms (Formulas Atom ℕ) → Atoms
atoms_step (layer.Constant b) = Yes
atoms_step (layer.One a) = One a
atoms_step (layer.Joined j fs) = And fs
atoms_step (layer.Quantified q x f) = f.value

abbrev pub all_atoms_step : layer.Members-F Atoms (Formulas Atom ℕ) → Formulas Atom ℕ
all_atoms_step fs = listed fs.list.items

unfoldable pub nnf_atoms : code.Nnf → Atoms
nnf_atoms = code.fold-Nnf Atoms (Formulas Atom ℕ) atoms_step all_atoms_step

unfoldable pub nnfs_atoms : codes.Members → Formulas Atom ℕ
nnfs_atoms = codes.fold-Members Atoms (Formulas Atom ℕ) atoms_step all_atoms_step

-- each modulus of the formula is positive and within the limit
abbrev pub IsProper : code.Nnf → Type 0
IsProper f = Every IsWellFormed (nnf_atoms f)

abbrev pub AreProper : List code.Nnf → Type 0
AreProper fs = EveryOf IsWellFormed (listed (map nnf_atoms fs))

-- ---- atoms as they are meant

-- the modulus is positive and within the limit
abbrev pub HasModulus : meant.Atom → Type 0
HasModulus (meant.Compare r f) = Unit {0}
HasModulus (meant.Congruent holds n f) = (0 < n) × (n < 2 ^ 127)
