-- What is put for a name of a branch.
use Rattle.std.specs.Prelude.{◌≡◌, ◌⊎◌, ◌≤◌, ℕ, List, [], ◌∷◌, All as Each, map, flat_map, get_or, Some, None, ◌↔◌}
use Rattle.logic_meaning.specs.Formula.{Yes, No, One, Not, And, Or, Impl, Repl, Equiv, Ex, All, none, also}
use Rattle.logic_meaning.specs.Fold.{append}
use Rattle.logic_meaning.specs.Some.{Among, EachOf}
use Rattle.formula_laws.specs.StandsOnce.{StandsOnce}
use Rattle.logic_meaning.specs.Form.{Form}
use Rattle.logic_meaning.specs.Atom as meant
use Rattle.logic_meaning.specs.Answer.{Place}
use Rattle.logic_meaning.specs.Tree.{Tree, Trees, IsFree}
use Rattle.logic_meaning.specs.declared.side.Side.{Side}
use Rattle.logic_meaning.specs.Atoms.{atoms_of}
use Rattle.logic_meaning.specs.Answers.{zero_place}
use Rattle.logic_meaning.specs.BothTheories.{IsPlaceIn, test_points}
use Rattle.logic_meaning.specs.declared.form.VarId.{VarId}
use Rattle.normal_atoms.specs.declared.atoms.Context.{Context}
use Rattle.normal_atoms.specs.declared.atoms.Atom.{Atom}
use Rattle.normal_atoms.specs.Atoms.{atom_of, context_of, IsWellFormed}
use Rattle.formula_tree.specs.declared.shape.Shape.{Shape}
use Rattle.formula_tree.specs.declared.shape.Shape.TheVariants as shape
use Rattle.formula_store.specs.declared.id.FormulaId.{FormulaId}
use Rattle.test_points.specs.declared.points.TestPoint.{TestPoint}
use Rattle.test_points.specs.Points.{place_of, IsPointOf}
use Rattle.case_theory.specs.Points.{ArePointsFor}
use Rattle.logic_meaning.specs.Roots.{IsRoot}
use Rattle.logic_meaning.specs.Direct.{first_equation}
use Rattle.branch_points.specs.declared.choice.Chosen.{Chosen}
use Rattle.branch_points.specs.Counts.{SpanPasses, count_of}

-- ---- the atoms of a branch

-- the atom of the shape, if it is one
abbrev pub shape_atoms : {Id : Type 0} → Shape Id → List Atom
shape_atoms (shape.One a) = a ∷ []
shape_atoms shape.True = []
shape_atoms shape.False = []
shape_atoms (shape.And ids) = []
shape_atoms (shape.Or ids) = []
shape_atoms (shape.Not f) = []
shape_atoms (shape.Impl f g) = []
shape_atoms (shape.Repl f g) = []
shape_atoms (shape.Equiv f g) = []
shape_atoms (shape.Ex x f) = []
shape_atoms (shape.All x f) = []

-- the atoms among the formulas with these ids, in their order
abbrev pub listed_atoms : List (Shape FormulaId) → List FormulaId → List Atom
listed_atoms nodes ids = flat_map (λ (id : FormulaId). shape_atoms (get_or nodes id.number shape.True)) ids

-- well-formed atoms, each once, which are those of the formula
pub record AreAtomsOf (f : Tree) (atoms : List Atom) : Type 0 where
  pub well_formed : Each IsWellFormed atoms
  pub once : StandsOnce (map atom_of atoms)
  pub same : (a : meant.Atom) → Among (map atom_of atoms) a ↔ Among (atoms_of f) a

-- some order of the atoms of f has this
abbrev pub InSomeOrder : (List meant.Atom → Type 0) → Tree → Type 0
InSomeOrder P f = (atoms : List Atom) × AreAtomsOf f atoms × P (map atom_of atoms)

-- ---- its equations

-- the members of a conjunction, or the formula itself
abbrev pub conjuncts : Tree → Trees
conjuncts Yes = also Yes none
conjuncts No = also No none
conjuncts (One a) = also (One a) none
conjuncts (Not f) = also (Not f) none
conjuncts (And fs) = fs
conjuncts (Or fs) = also (Or fs) none
conjuncts (Impl f g) = also (Impl f g) none
conjuncts (Repl f g) = also (Repl f g) none
conjuncts (Equiv f g) = also (Equiv f g) none
conjuncts (Ex x f) = also (Ex x f) none
conjuncts (All x f) = also (All x f) none

-- none of the formulas is an equation in one of the names
abbrev pub HasNoEquation : Trees → List VarId → Type 0
HasNoEquation fs left = (x : VarId) → Among left x → first_equation x.number fs ≡ None

-- one of the names, at the root of the first of the formulas that is an equation in one of the names
pub record IsRootAmong (c : Context) (fs : Trees) (left : List VarId) (t : TestPoint) : Type 0 where
  pub listed : Among left t.name
  pub well_formed : IsPointOf t.name t
  pub equation : Form
  pub root : IsRoot (context_of c) t.name.number equation (place_of t)
  pub before : Trees
  pub after : Trees
  pub split : fs ≡ append before (also (One (meant.Compare meant.Equals equation)) after)
  pub nowhere : HasNoEquation before left

-- ---- the choice

-- one of the names, at the points of a side, so many at most, of which no name has fewer on any side, unless its span passes the limit
pub record IsOnSide (c : Context) (atoms : List meant.Atom) (left : List VarId) (most : ℕ) (ch : Chosen) : Type 0 where
  pub listed : Among left ch.name
  pub points : Each (IsPointOf ch.name) ch.points.items
  pub side : Side
  pub places : map place_of ch.points.items ≡ test_points (context_of c) side ch.name.number atoms
  pub few : count_of (context_of c) side ch.name.number atoms ≤ most
  pub fewest : EachOf (λ x. SpanPasses (context_of c) x.number atoms ⊎ ((s : Side) → count_of (context_of c) side ch.name.number atoms ≤ count_of (context_of c) s x.number atoms)) left

-- One of the names that are left, and test points at places of the theory that are enough for it. Of a conjunction of which one
-- name is left it is the root of the first member that is an equation in it.
pub record IsChosen (c : Context) (f : Tree) (left : List VarId) (ch : Chosen) : Type 0 where
  pub listed : Among left ch.name
  pub points : Each (IsPointOf ch.name) ch.points.items
  pub places : Each (λ t. IsPlaceIn (context_of c) (place_of t)) ch.points.items
  pub suffice : ArePointsFor (context_of c) ch.name.number f (map place_of ch.points.items)
  pub direct : (x : ℕ) (fs : Trees) (e : Form) → map (λ (y : VarId). y.number) left ≡ x ∷ [] → f ≡ And fs → IsFree f x → first_equation x fs ≡ Some e →
      (s : Place) × IsRoot (context_of c) x e s × (map place_of ch.points.items ≡ s ∷ [])

-- each of the names stands in the formula, and no conjunct is an equation in it
abbrev pub NeedsCounting : Tree → List ℕ → Type 0
NeedsCounting f left = (x : ℕ) → Among left x → IsFree f x × (first_equation x (conjuncts f) ≡ None)

-- the name stands nowhere in f, and its point is 0
abbrev pub IsAtZero : Tree → Chosen → Type 0
IsAtZero f ch = ¬ (IsFree f ch.name.number) × (map place_of ch.points.items ≡ zero_place ∷ [])

-- the point is the root of the first conjunct of f that is an equation in one of the names
abbrev pub IsAtRoot : Context → Tree → List VarId → Chosen → Type 0
IsAtRoot c f left ch = (t : TestPoint) × IsRootAmong c (conjuncts f) left t × (ch.name ≡ t.name) × (ch.points.items ≡ t ∷ [])

-- Which rule chose: a name that stands nowhere goes first, at 0, then one of an equation, at its root, and else the one with the
-- fewest points, in some order of the atoms.
pub record IsByRule (c : Context) (f : Tree) (left : List VarId) (most : ℕ) (ch : Chosen) : Type 0 where
  pub absent : (x : VarId) → Among left x → ¬ (IsFree f x.number) → IsAtZero f ch
  pub equation : ((x : VarId) → Among left x → IsFree f x.number) → (x : VarId) (e : Form) → Among left x → first_equation x.number (conjuncts f) ≡ Some e → IsAtRoot c f left ch
  pub counted : NeedsCounting f (map (λ (x : VarId). x.number) left) → InSomeOrder (λ atoms. IsOnSide c atoms left most ch) f
