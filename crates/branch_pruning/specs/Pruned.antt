-- What is left of a formula once it is pruned under assumptions, and which formulas of a list cover the others.
use Rattle.std.specs.Prelude.{◌≡◌, ℕ, Bool, List, length}
use Rattle.logic_meaning.specs.Context.{Context}
use Rattle.logic_meaning.specs.Point.{Point, Of}
use Rattle.logic_meaning.specs.Some.{SomeOf}
use Rattle.logic_meaning.specs.Atom.{Atom}
use Rattle.logic_meaning.specs.Tree.{Tree, TrueAt}
use Rattle.logic_meaning.specs.Trees.{IsReduced}
use Rattle.shape_theory.specs.Texts.{IsNoLarger}
use Rattle.formula_tree.specs.declared.shape.Shape.{Shape}
use Rattle.formula_store.specs.declared.id.FormulaId.{FormulaId}
use Rattle.formula_store.specs.Nodes.{tree, IsId}
use Rattle.atom_pruning.specs.Kept.{AllSay, marked}
use Rattle.case_theory.specs.Worked.{IsWorked}

-- the id is one of the nodes; to its formula f is worked on under the atoms, it is reduced under them, and no larger than f
pub record IsPrunedTo (c : Context) (ks : List Atom) (f : Tree) (nodes : List (Shape FormulaId)) (id : FormulaId) : Type 0 where
  pub is : IsId nodes id
  pub worked : IsWorked c ks f (tree nodes id)
  pub reduced : IsReduced c (tree nodes id) ks
  pub no_larger : IsNoLarger f (tree nodes id)

-- some of the formulas is true at the point
abbrev pub SomeTrue : Context → List Tree → Point ℕ → Type 0
SomeTrue c fs p = SomeOf (λ f. TrueAt c f p) fs

-- a mark for each formula; where the atoms are true and some formula is, some is that is marked
pub record AreCovering (c : Context) (ks : List Atom) (fs : List Tree) (marks : List Bool) : Type 0 where
  pub one_each : length marks ≡ length fs
  pub cover : (p : Point ℕ) → Of c p → AllSay ks p → SomeTrue c fs p → SomeTrue c (marked marks fs) p
