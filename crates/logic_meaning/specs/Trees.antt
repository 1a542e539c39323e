-- Simplification of resolved formulas: which are simplified, under which atoms, and what is owed.
use Rattle.std.specs.Prelude.{List}
use Rattle.logic_meaning.specs.Context.{Context}
use Rattle.logic_meaning.specs.Atom.{Atom, Mentions}
use Rattle.logic_meaning.specs.Tree.{Tree}
use Rattle.logic_meaning.specs.NormalForm.{negated_normal}
use Rattle.logic_meaning.specs.Merging.{IsKept, Implies, Excludes}
use Rattle.logic_meaning.specs.Reduced.{Reduced}
use Rattle.logic_meaning.specs.Contained.{contains}

-- the atom k says neither that a is true nor that it is false
abbrev pub LeavesOpen : Context → Atom → Atom → Type 0
LeavesOpen c k a = (¬ (Implies c k a)) × (¬ (Excludes c k a))

-- Reduced under the atoms ks
abbrev pub IsReduced : Context → Tree → List Atom → Type 0
IsReduced c f ks = Reduced (IsKept c) (LeavesOpen c) negated_normal contains Mentions f ks
