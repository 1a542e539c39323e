-- What is left of a formula under the assumptions.
use Rattle.std.specs.Prelude.{◌≤◌, List, map, Option, Some, None}
use Rattle.std.specs.List.{AllByRecursion}
use Rattle.logic_meaning.specs.Context.{Context, Fields, Integers}
use Rattle.logic_meaning.specs.Answer.{Place}
use Rattle.logic_meaning.specs.Atom.{Atom}
use Rattle.logic_meaning.specs.Some.{EachOf}
use Rattle.logic_meaning.specs.Tree.{Tree}
use Rattle.normal_atoms.specs.Atoms.{context_of, atom_of, IsWellFormed}
use Rattle.logic_meaning.specs.NormalForm.{IsNormal}
use Rattle.formula_tree.specs.declared.shape.Shape.{Shape}
use Rattle.formula_store.specs.declared.id.FormulaId.{FormulaId}
use Rattle.formula_store.specs.Nodes.{tree, IsId}
use Rattle.nnf_trees.specs.Placed.{with_guard}
use Rattle.case_theory.specs.Worked.{IsWorked, IsNeverUnder}
use Rattle.branch_pruning.specs.Pruned.{IsPrunedTo}
use Rattle.branch_rounds.specs.declared.work.Work.{Work}

-- the assumptions are normal atoms, and there is a thread to work
pub record IsWork (w : Work) : Type 0 where
  pub well_formed : AllByRecursion IsWellFormed w.assumed.now
  pub normal : EachOf (IsNormal (context_of w.context)) (map atom_of w.assumed.now)
  pub workers : 1 ≤ w.workers

-- the formula, over the integers joined with the guard of the place
abbrev pub guarded : Context → Place → Tree → Tree
guarded Fields s f = f
guarded Integers s f = with_guard s f

-- the id is one of the nodes, to whose formula f is worked on under the atoms
pub record IsWorkedTo (c : Context) (ks : List Atom) (f : Tree) (nodes : List (Shape FormulaId)) (id : FormulaId) : Type 0 where
  pub is : IsId nodes id
  pub worked : IsWorked c ks f (tree nodes id)

-- what is left of f under the atoms: nothing only where it is never true, else f pruned under them
abbrev pub IsLeft : Context → List Atom → Tree → List (Shape FormulaId) → Option FormulaId → Type 0
IsLeft c ks f nodes None = IsNeverUnder c ks f
IsLeft c ks f nodes (Some id) = IsPrunedTo c ks f nodes id
