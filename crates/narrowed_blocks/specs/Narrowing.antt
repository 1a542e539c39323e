-- A block of ex with fewer names.
use Rattle.std.specs.Prelude.{◌⊎◌, ◌↔◌, ℕ, List, [], ◌∷◌, map, nat_eq, if◌then◌else◌}
use Rattle.std.specs.List.{AllByRecursion}
use Rattle.formula_laws.specs.StandsOnce.{StandsOnce}
use Rattle.logic_meaning.specs.Context.{Context}
use Rattle.logic_meaning.specs.Every.{FreeInSome}
use Rattle.logic_meaning.specs.Formula.{One, And, also}
use Rattle.logic_meaning.specs.Point.{Point, Of}
use Rattle.logic_meaning.specs.Some.{SomeOf, Among, EachOf}
use Rattle.logic_meaning.specs.Atom as meant
use Rattle.logic_meaning.specs.Atom.{Mentions}
use Rattle.logic_meaning.specs.NormalForm.{IsNormal}
use Rattle.logic_meaning.specs.Tree.{Tree, Trees, IsFree}
use Rattle.logic_meaning.specs.declared.form.VarId.{VarId}
use Rattle.elimination_theory.specs.Theorems.{IsTidy}
use Rattle.normal_atoms.specs.Atoms.{atom_of, IsWellFormed}
use Rattle.formula_tree.specs.declared.shape.Shape.{Shape}
use Rattle.formula_store.specs.declared.id.FormulaId.{FormulaId}
use Rattle.formula_store.specs.Nodes.{tree, IsId}
use Rattle.case_theory.specs.Under.{Lack}
use Rattle.case_theory.specs.Block.{Somewhere}
use Rattle.case_theory.specs.PutThrough.{AreTrue}
use Rattle.narrowed_blocks.specs.declared.narrowing.NarrowedBlock.{NarrowedBlock}
use Rattle.narrowed_blocks.specs.declared.open_block.OpenBlock.{OpenBlock}

-- ---- the whole

-- The block of the names over f is, where the assumptions are true, the one of the names that are left over g, which is tidy. Of g each
-- name is one of f, and those of the block are left.
pub record IsNarrowed (c : Context) (ks : List meant.Atom) (f : Tree) (block : List ℕ) (g : Tree) (left : List ℕ) : Type 0 where
  pub tidy : IsTidy c g
  pub once : StandsOnce left
  pub of_block : (y : ℕ) → Among left y → Among block y
  pub names : (y : ℕ) → IsFree g y → IsFree f y × (Among block y → Among left y)
  pub same : (p : Point ℕ) → Of c p → AreTrue ks p → Somewhere c (Among block) f p ↔ Somewhere c (Among left) g p

-- the numbers of names
abbrev pub numbers : List VarId → List ℕ
numbers names = map (λ (y : VarId). y.number) names

-- the names but for one
abbrev pub others_of : VarId → List VarId → List VarId
others_of x [] = []
others_of x (y ∷ names) = if nat_eq y.number x.number then others_of x names else y ∷ others_of x names

-- the block is narrowed to that of the formula with the id
pub record IsNarrowedTo (c : Context) (ks : List meant.Atom) (f : Tree) (block : List ℕ) (nodes : List (Shape FormulaId)) (n : NarrowedBlock) : Type 0 where
  pub is : IsId nodes n.matrix
  pub narrowed : IsNarrowed c ks f block (tree nodes n.matrix) (numbers n.names.items)

-- ---- on the way: a conjunction of atoms and other formulas

-- the atoms as formulas, and the others behind them
abbrev pub listed : List meant.Atom → Trees → Trees
listed [] fs = fs
listed (u ∷ us) fs = also (One u) (listed us fs)

-- the name is of one of the formulas
abbrev pub IsNameOf : List meant.Atom → Trees → ℕ → Type 0
IsNameOf us fs y = SomeOf (λ (u : meant.Atom). Mentions u y) us ⊎ FreeInSome Mentions fs y

-- The block of f is that of the names that are left over the conjunction of the atoms and of the formulas fs, which have none of the
-- names that may go.
pub record IsOpen (c : Context) (ks : List meant.Atom) (f : Tree) (block : List ℕ) (fs : Trees) (o : OpenBlock) : Type 0 where
  pub lack : EachOf (Lack ks) block
  pub well_formed : AllByRecursion IsWellFormed o.atoms.items
  pub normal : EachOf (IsNormal c) (map atom_of o.atoms.items)
  pub once : StandsOnce (numbers o.names.items)
  pub of_block : (y : ℕ) → Among (numbers o.names.items) y → Among block y
  pub names : (y : ℕ) → IsNameOf (map atom_of o.atoms.items) fs y → IsFree f y × (Among block y → Among (numbers o.names.items) y)
  pub movable : EachOf (λ (x : VarId). Among o.names.items x × ¬ (FreeInSome Mentions fs x.number)) o.movable.items
  pub same : (p : Point ℕ) → Of c p → AreTrue ks p → Somewhere c (Among block) f p ↔ Somewhere c (Among (numbers o.names.items)) (And (listed (map atom_of o.atoms.items) fs)) p

-- whatever the block is that the first one is, the second is it too
abbrev pub GoesOn : Context → List meant.Atom → OpenBlock → OpenBlock → Type 0
GoesOn c ks old new = (f : Tree) (block : List ℕ) (fs : Trees) → IsOpen c ks f block fs old → IsOpen c ks f block fs new

-- whatever the block is that this one is, it is true nowhere where the assumptions are
abbrev pub IsNever : Context → List meant.Atom → OpenBlock → Type 0
IsNever c ks o = (f : Tree) (block : List ℕ) (fs : Trees) → IsOpen c ks f block fs o → (p : Point ℕ) → Of c p → AreTrue ks p → ¬ (Somewhere c (Among block) f p)
