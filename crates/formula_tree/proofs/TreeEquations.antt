-- The tree of a resolved formula, at each way to make one.
use Rattle.std.proofs.Common.{◌≡◌, sym, ap, ◌∙◌}
use Rattle.std.specs.Prelude.{map}
use Rattle.std.specs.declared.boxed.Box.{Box}
use Rattle.std.specs.declared.alloc.Global.{Global}
use Rattle.std.specs.declared.vec.Vec.{Vec}
use Rattle.logic_meaning.specs.Formula.{Yes, No, One, Not, And, Or, Impl, Repl, Equiv, Ex, All}
use Rattle.logic_meaning.specs.declared.form.VarId.{VarId}
use Rattle.normal_atoms.specs.declared.atoms.Atom.{Atom}
use Rattle.normal_atoms.specs.Atoms.{atom_of}
use Rattle.formula_tree.specs.declared.tree.Tree as code
use Rattle.formula_tree.specs.declared.tree.Tree.TheVariants as tree
use Rattle.formula_tree.specs.declared.tree.Tree.TheOpen as layer
use Rattle.formula_tree.specs.declared.tree.Trees as codes
use Rattle.formula_tree.specs.Trees.{members, tree_step, trees_step, tree_of, trees_of}

pub tree-True : tree_of tree.True ≡ Yes
unfolding tree_of trees_of
tree-True = ap tree_of (sym (tree.rolls-True)) ∙ code.fold-roll-Tree _ _ tree_step trees_step layer.True

pub tree-False : tree_of tree.False ≡ No
unfolding tree_of trees_of
tree-False = ap tree_of (sym (tree.rolls-False)) ∙ code.fold-roll-Tree _ _ tree_step trees_step layer.False

pub tree-One : (a : Atom) → tree_of (tree.One a) ≡ One (atom_of a)
unfolding tree_of trees_of
tree-One a = ap tree_of (sym (tree.rolls-One a)) ∙ code.fold-roll-Tree _ _ tree_step trees_step (layer.One a)

pub tree-And : (fs : codes.Trees) → tree_of (tree.And fs) ≡ And (trees_of fs)
unfolding tree_of trees_of
tree-And fs = ap tree_of (sym (tree.rolls-And fs)) ∙ code.fold-roll-Tree _ _ tree_step trees_step (layer.And fs)

pub tree-Or : (fs : codes.Trees) → tree_of (tree.Or fs) ≡ Or (trees_of fs)
unfolding tree_of trees_of
tree-Or fs = ap tree_of (sym (tree.rolls-Or fs)) ∙ code.fold-roll-Tree _ _ tree_step trees_step (layer.Or fs)

pub tree-Not : (f : Box code.Tree Global) → tree_of (tree.Not f) ≡ Not (tree_of f.value)
unfolding tree_of trees_of
tree-Not f = ap tree_of (sym (tree.rolls-Not f)) ∙ code.fold-roll-Tree _ _ tree_step trees_step (layer.Not f)

pub tree-Impl : (f g : Box code.Tree Global) → tree_of (tree.Impl f g) ≡ Impl (tree_of f.value) (tree_of g.value)
unfolding tree_of trees_of
tree-Impl f g = ap tree_of (sym (tree.rolls-Impl f g)) ∙ code.fold-roll-Tree _ _ tree_step trees_step (layer.Impl f g)

pub tree-Repl : (f g : Box code.Tree Global) → tree_of (tree.Repl f g) ≡ Repl (tree_of f.value) (tree_of g.value)
unfolding tree_of trees_of
tree-Repl f g = ap tree_of (sym (tree.rolls-Repl f g)) ∙ code.fold-roll-Tree _ _ tree_step trees_step (layer.Repl f g)

pub tree-Equiv : (f g : Box code.Tree Global) → tree_of (tree.Equiv f g) ≡ Equiv (tree_of f.value) (tree_of g.value)
unfolding tree_of trees_of
tree-Equiv f g = ap tree_of (sym (tree.rolls-Equiv f g)) ∙ code.fold-roll-Tree _ _ tree_step trees_step (layer.Equiv f g)

pub tree-Ex : (x : VarId) (f : Box code.Tree Global) → tree_of (tree.Ex x f) ≡ Ex x.number (tree_of f.value)
unfolding tree_of trees_of
tree-Ex x f = ap tree_of (sym (tree.rolls-Ex x f)) ∙ code.fold-roll-Tree _ _ tree_step trees_step (layer.Ex x f)

pub tree-All : (x : VarId) (f : Box code.Tree Global) → tree_of (tree.All x f) ≡ All x.number (tree_of f.value)
unfolding tree_of trees_of
tree-All x f = ap tree_of (sym (tree.rolls-All x f)) ∙ code.fold-roll-Tree _ _ tree_step trees_step (layer.All x f)

pub trees-list : (v : Vec code.Tree Global) → trees_of (codes.roll-Trees (record { list = v })) ≡ members (map tree_of v.items)
unfolding tree_of trees_of
trees-list v = codes.fold-roll-Trees _ _ tree_step trees_step (record { list = v })

pub trees-out : (fs : codes.Trees) → trees_of fs ≡ members (map tree_of (codes.out-Trees fs).list.items)
unfolding tree_of trees_of
trees-out fs = codes.fold_out-Trees _ _ tree_step trees_step fs

-- the equations that make the trees of resolved formulas compute
pub ruleset trees = (tree-True, tree-False, tree-One, tree-And, tree-Or, tree-Not, tree-Impl, tree-Repl, tree-Equiv, tree-Ex, tree-All, trees-list, trees-out)
