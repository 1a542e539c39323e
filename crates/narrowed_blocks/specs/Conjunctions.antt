-- The members of a conjunction: its atoms, and the others.
use Rattle.std.specs.Prelude.{◌≡◌, ◌⊎◌, ◌↔◌, ◌++◌, ℕ, List, [], ◌∷◌, map}
use Rattle.std.specs.List.{AllByRecursion}
use Rattle.logic_meaning.specs.Context.{Context}
use Rattle.logic_meaning.specs.Every.{FreeInSome}
use Rattle.logic_meaning.specs.Formula.{One, And}
use Rattle.logic_meaning.specs.Point.{Point}
use Rattle.logic_meaning.specs.Some.{EachOf}
use Rattle.logic_meaning.specs.Atom.{Mentions}
use Rattle.logic_meaning.specs.NormalForm.{IsNormal}
use Rattle.logic_meaning.specs.Tree.{Tree, Trees, TrueAt}
use Rattle.elimination_theory.specs.Theorems.{IsTidy}
use Rattle.normal_atoms.specs.declared.atoms.Atom.{Atom}
use Rattle.normal_atoms.specs.Atoms.{atom_of, IsWellFormed}
use Rattle.formula_tree.specs.Trees.{members}
use Rattle.formula_tree.specs.declared.shape.Shape.{Shape}
use Rattle.formula_store.specs.declared.id.FormulaId.{FormulaId}
use Rattle.formula_store.specs.Nodes.{tree, IsId}
use Rattle.narrowed_blocks.specs.declared.conjunction.Conjunction.{Conjunction}
use Rattle.narrowed_blocks.specs.Narrowing.{listed, IsNameOf}

-- the others, as the members of a list
abbrev pub others_in : List (Shape FormulaId) → Conjunction → Trees
others_in nodes k = members (map (tree nodes) k.others.items)

-- The atoms and the others are those of the formulas: all of them are true exactly where these are, with their names. Where these are
-- tidy, the atoms are normal and the others are tidy.
pub record AreMembersOf (ts : List Tree) (nodes : List (Shape FormulaId)) (k : Conjunction) : Type 0 where
  pub well_formed : AllByRecursion IsWellFormed k.atoms.items
  pub ids : EachOf (IsId nodes) k.others.items
  pub same : (c : Context) (p : Point ℕ) → TrueAt c (And (members ts)) p ↔ TrueAt c (And (listed (map atom_of k.atoms.items) (others_in nodes k))) p
  pub names : (y : ℕ) → IsNameOf (map atom_of k.atoms.items) (others_in nodes k) y → FreeInSome Mentions (members ts) y
  pub tidy : (c : Context) → EachOf (IsTidy c) ts → EachOf (IsNormal c) (map atom_of k.atoms.items) × EachOf (λ (id : FormulaId). IsTidy c (tree nodes id)) k.others.items

-- they are those of one formula, which is a conjunction or alone
pub record IsConjunctionOf (f : Tree) (nodes : List (Shape FormulaId)) (k : Conjunction) : Type 0 where
  pub well_formed : AllByRecursion IsWellFormed k.atoms.items
  pub ids : EachOf (IsId nodes) k.others.items
  pub same : (c : Context) (p : Point ℕ) → TrueAt c f p ↔ TrueAt c (And (listed (map atom_of k.atoms.items) (others_in nodes k))) p
  pub names : (y : ℕ) → IsNameOf (map atom_of k.atoms.items) (others_in nodes k) y → Rattle.logic_meaning.specs.Tree.IsFree f y
  pub tidy : (c : Context) → IsTidy c f → EachOf (IsNormal c) (map atom_of k.atoms.items) × EachOf (λ (id : FormulaId). IsTidy c (tree nodes id)) k.others.items

-- the atom is put last
pub record IsWithAtom (nodes : List (Shape FormulaId)) (id : FormulaId) (old new : Conjunction) : Type 0 where
  pub atom : Atom
  pub is : tree nodes id ≡ One (atom_of atom)
  pub well_formed : IsWellFormed atom
  pub atoms : new.atoms.items ≡ old.atoms.items ++ atom ∷ []
  pub others : new.others.items ≡ old.others.items

-- the formula is put last of the others
pub record IsWithOther (id : FormulaId) (old new : Conjunction) : Type 0 where
  pub atoms : new.atoms.items ≡ old.atoms.items
  pub others : new.others.items ≡ old.others.items ++ id ∷ []

-- the formula is put last of the atoms if it is one, or else of the others
abbrev pub IsAdded : List (Shape FormulaId) → FormulaId → Conjunction → Conjunction → Type 0
IsAdded nodes id old new = IsWithAtom nodes id old new ⊎ IsWithOther id old new
