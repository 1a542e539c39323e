-- The formula of a tree in negation normal form and its atoms, at each way to make one.
use Rattle.std.proofs.Common.{◌≡◌, sym, ap, ◌∙◌, Bool}
use Rattle.std.specs.Prelude.{map}
use Rattle.std.specs.declared.boxed.Box.{Box}
use Rattle.std.specs.declared.alloc.Global.{Global}
use Rattle.std.specs.declared.vec.Vec.{Vec}
use Rattle.logic_meaning.specs.Fold.{joined}
use Rattle.logic_meaning.specs.Shape.{quantified}
use Rattle.logic_meaning.specs.Formula.{Yes, One, And}
use Rattle.logic_meaning.specs.declared.form.VarId.{VarId}
use Rattle.normal_atoms.specs.declared.atoms.Atom.{Atom}
use Rattle.normal_atoms.specs.Atoms.{atom_of}
use Rattle.logic_meaning.specs.NormalForm.{constant_tree}
use Rattle.formula_tree.specs.Trees.{members}
use Rattle.logic_meaning.specs.declared.junction.Junction.{Junction}
use Rattle.logic_meaning.specs.declared.quantifier.Quantifier.{Quantifier}
use Rattle.nnf_trees.specs.declared.nnf.Nnf as code
use Rattle.nnf_trees.specs.declared.nnf.Nnf.TheVariants as nnf
use Rattle.nnf_trees.specs.declared.nnf.Nnf.TheOpen as layer
use Rattle.nnf_trees.specs.declared.nnf.Members as codes
use Rattle.nnf_trees.specs.Nnfs.{nnf_step, nnfs_step, nnf_of, nnfs_of, listed, atoms_step, all_atoms_step, nnf_atoms, nnfs_atoms}

pub nnf-Constant : (b : Bool) → nnf_of (nnf.Constant b) ≡ constant_tree b
unfolding nnf_of nnfs_of
nnf-Constant b = ap nnf_of (sym (nnf.rolls-Constant b)) ∙ code.fold-roll-Nnf _ _ nnf_step nnfs_step (layer.Constant b)

pub nnf-One : (a : Atom) → nnf_of (nnf.One a) ≡ One (atom_of a)
unfolding nnf_of nnfs_of
nnf-One a = ap nnf_of (sym (nnf.rolls-One a)) ∙ code.fold-roll-Nnf _ _ nnf_step nnfs_step (layer.One a)

pub nnf-Joined : (j : Junction) (fs : codes.Members) → nnf_of (nnf.Joined j fs) ≡ joined j (nnfs_of fs)
unfolding nnf_of nnfs_of
nnf-Joined j fs = ap nnf_of (sym (nnf.rolls-Joined j fs)) ∙ code.fold-roll-Nnf _ _ nnf_step nnfs_step (layer.Joined j fs)

pub nnf-Quantified : (q : Quantifier) (x : VarId) (f : Box code.Nnf Global) → nnf_of (nnf.Quantified q x f) ≡ quantified q x.number (nnf_of f.value)
unfolding nnf_of nnfs_of
nnf-Quantified q x f = ap nnf_of (sym (nnf.rolls-Quantified q x f)) ∙ code.fold-roll-Nnf _ _ nnf_step nnfs_step (layer.Quantified q x f)

pub atoms-Constant : (b : Bool) → nnf_atoms (nnf.Constant b) ≡ Yes
unfolding nnf_atoms nnfs_atoms
atoms-Constant b = ap nnf_atoms (sym (nnf.rolls-Constant b)) ∙ code.fold-roll-Nnf _ _ atoms_step all_atoms_step (layer.Constant b)

pub atoms-One : (a : Atom) → nnf_atoms (nnf.One a) ≡ One a
unfolding nnf_atoms nnfs_atoms
atoms-One a = ap nnf_atoms (sym (nnf.rolls-One a)) ∙ code.fold-roll-Nnf _ _ atoms_step all_atoms_step (layer.One a)

pub atoms-Joined : (j : Junction) (fs : codes.Members) → nnf_atoms (nnf.Joined j fs) ≡ And (nnfs_atoms fs)
unfolding nnf_atoms nnfs_atoms
atoms-Joined j fs = ap nnf_atoms (sym (nnf.rolls-Joined j fs)) ∙ code.fold-roll-Nnf _ _ atoms_step all_atoms_step (layer.Joined j fs)

pub atoms-Quantified : (q : Quantifier) (x : VarId) (f : Box code.Nnf Global) → nnf_atoms (nnf.Quantified q x f) ≡ nnf_atoms f.value
unfolding nnf_atoms nnfs_atoms
atoms-Quantified q x f = ap nnf_atoms (sym (nnf.rolls-Quantified q x f)) ∙ code.fold-roll-Nnf _ _ atoms_step all_atoms_step (layer.Quantified q x f)

pub nnfs-list : (v : Vec code.Nnf Global) → nnfs_of (codes.roll-Members (record { list = v })) ≡ members (map nnf_of v.items)
unfolding nnf_of nnfs_of
nnfs-list v = codes.fold-roll-Members _ _ nnf_step nnfs_step (record { list = v })

pub nnfs-out : (fs : codes.Members) → nnfs_of fs ≡ members (map nnf_of (codes.out-Members fs).list.items)
unfolding nnf_of nnfs_of
nnfs-out fs = codes.fold_out-Members _ _ nnf_step nnfs_step fs

pub atoms-list : (v : Vec code.Nnf Global) → nnfs_atoms (codes.roll-Members (record { list = v })) ≡ listed (map nnf_atoms v.items)
unfolding nnf_atoms nnfs_atoms
atoms-list v = codes.fold-roll-Members _ _ atoms_step all_atoms_step (record { list = v })

pub atoms-out : (fs : codes.Members) → nnfs_atoms fs ≡ listed (map nnf_atoms (codes.out-Members fs).list.items)
unfolding nnf_atoms nnfs_atoms
atoms-out fs = codes.fold_out-Members _ _ atoms_step all_atoms_step fs

-- the equations that make the formulas of trees compute
pub ruleset nnfs = (nnf-Constant, nnf-One, nnf-Joined, nnf-Quantified, nnfs-list, nnfs-out, atoms-Constant, atoms-One, atoms-Joined, atoms-Quantified, atoms-list, atoms-out)
