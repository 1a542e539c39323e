-- A formula in which constants stand for some atoms and some conjunctions, and when it keeps its truth under assumptions.
use Rattle.std.specs.Prelude.{◌≡◌, ◌⊎◌, Bool, false, ℕ, pos, ◌≤◌, List, [], ◌∷◌, map}
use Rattle.std.specs.List.{AllByRecursion}
use Rattle.logic_meaning.specs.Context.{Context}
use Rattle.logic_meaning.specs.Point.{Point, Of}
use Rattle.logic_meaning.specs.Formula.{Yes, No, One, And, Or, none, also}
use Rattle.logic_meaning.specs.Plain.{IsAtomic}
use Rattle.logic_meaning.specs.Atom.{Atom, Compare, Equals}
use Rattle.logic_meaning.specs.Tree.{Tree, Trees}
use Rattle.shape_theory.specs.Simplifiable.{EquivalentUnder}
use Rattle.formula_tree.specs.declared.shape.Shape.{Shape}
use Rattle.formula_store.specs.declared.id.FormulaId.{FormulaId}
use Rattle.formula_store.specs.Nodes.{tree, IsId}
use Rattle.atom_pruning.specs.declared.rows.AtomRows.{AtomRows}
use Rattle.branch_pruning.specs.declared.cutting.Cutter.{Cutter}
use Rattle.atom_pruning.specs.Rows.{AreRows}
use Rattle.atom_pruning.specs.Kept.{AllSay}

mutual
  -- the second formula is the first, in which constants stand for some atoms, and false for some conjunctions
  pub data IsCut : Tree → Tree → Type 0 where
    stays : {f : Tree} → IsCut f f
    goes : {a : Atom} → IsCut (One a) Yes
    fails : {a : Atom} → IsCut (One a) No
    never : {fs : Trees} → IsCut (And fs) No
    conjunction : {fs gs : Trees} → AreCut fs gs → IsCut (And fs) (And gs)
    disjunction : {fs gs : Trees} → AreCut fs gs → IsCut (Or fs) (Or gs)

  -- member by member
  pub data AreCut : Trees → Trees → Type 0 where
    no_member : AreCut none none
    one_more : {f g : Tree} {fs gs : Trees} → IsCut f g → AreCut fs gs → AreCut (also f fs) (also g gs)

-- f is cut to g, which has its truth under all atoms with these rows
pub record IsCutTo (c : Context) (rows : List AtomRows) (f g : Tree) : Type 0 where
  pub cut : IsCut f g
  pub equivalent : (ks : List Atom) → AreRows c ks rows → EquivalentUnder c ks f g

-- the same of a member of a conjunction: an atom or a constant stays
pub record IsInsideCutTo (c : Context) (rows : List AtomRows) (f g : Tree) : Type 0 where
  pub to : IsCutTo c rows f g
  pub atomic : IsAtomic f → g ≡ f

-- f stays, or becomes a constant
pub record IsDecidedTo (c : Context) (rows : List AtomRows) (f g : Tree) : Type 0 where
  pub to : IsCutTo c rows f g
  pub either : (g ≡ f) ⊎ IsAtomic g

-- formula by formula
abbrev pub AreAll : (Tree → Tree → Type 0) → List Tree → List Tree → Type 0
AreAll R [] [] = Unit {0}
AreAll R (f ∷ fs) (g ∷ gs) = R f g × AreAll R fs gs
AreAll R [] (g ∷ gs) = ⊥
AreAll R (f ∷ fs) [] = ⊥

-- R holds of f and the formula of an id
pub record IsIn (R : Tree → Tree → Type 0) (f : Tree) (nodes : List (Shape FormulaId)) (id : FormulaId) : Type 0 where
  pub is : IsId nodes id
  pub to : R f (tree nodes id)

-- R holds of the formulas and those of the ids
pub record AreIn (R : Tree → Tree → Type 0) (fs : List Tree) (nodes : List (Shape FormulaId)) (ids : List FormulaId) : Type 0 where
  pub are : AllByRecursion (IsId nodes) ids
  pub to : AreAll R fs (map (tree nodes) ids)

-- ---- the atoms of a conjunction

-- an atom that is always true
abbrev pub always : Atom
always = Compare Equals (record { terms = []; constant = pos 0 })

-- what a member says as an atom: itself if it is one
abbrev pub said : Tree → Atom
said (One a) = a
said f = always

-- what is left of a member that has a mark: without it an atom becomes true
abbrev pub left_of : Bool → Tree → Tree
left_of false (One a) = Yes
left_of b f = f

-- one after another; those past the marks stay
abbrev pub left_by : List Bool → List Tree → List Tree
left_by [] fs = fs
left_by (b ∷ bs) [] = []
left_by (b ∷ bs) (f ∷ fs) = left_of b f ∷ left_by bs fs

-- the rows are those of some atoms
pub record AreOfAtoms (c : Context) (rows : List AtomRows) : Type 0 where
  pub atoms : List Atom
  pub are : AreRows c atoms rows

-- the rows are those of atoms that are true where the assumptions and the others are
pub record AreToldBy (c : Context) (ks us : List Atom) (rows : List AtomRows) : Type 0 where
  pub atoms : List Atom
  pub are : AreRows c atoms rows
  pub told : (p : Point ℕ) → Of c p → AllSay ks p → AllSay us p → AllSay atoms p

-- the assumptions stay, and no effort comes
pub record StaysAt (old new : Cutter) : Type 0 where
  pub context : new.context ≡ old.context
  pub assumed : new.assumed.items ≡ old.assumed.items
  pub effort : new.effort ≤ old.effort
