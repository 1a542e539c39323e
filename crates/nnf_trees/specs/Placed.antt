-- A formula with a name at a place, and whether the numbers formed for it are within the limit.
use Rattle.std.specs.Prelude.{◌≡◌, ℕ, Bool, true, false, ◌&&◌, List, map}
use Rattle.logic_meaning.specs.Context.{Context, Integers}
use Rattle.logic_meaning.specs.Formula.{No, none, also}
use Rattle.logic_meaning.specs.NegationNormal.{both}
use Rattle.logic_meaning.specs.Fold.{folded, all_folded, fold_list}
use Rattle.logic_meaning.specs.declared.junction.Junction.TheVariants.{Conjunction}
use Rattle.logic_meaning.specs.Replaced.{replaced, all_replaced}
use Rattle.logic_meaning.specs.Answer.{Place}
use Rattle.logic_meaning.specs.Tree.{Tree, Trees}
use Rattle.test_points.specs.FromEliminationTheory.{trees_left}
use Rattle.logic_meaning.specs.Atoms.{atoms_in, atoms_in_all, atoms_of}
use Rattle.logic_meaning.specs.BothTheories.{guard_of}
use Rattle.logic_meaning.specs.Steps.{atom_at, normalised, result_at, results}
use Rattle.logic_meaning.specs.Limits.{each, place_within}
use Rattle.logic_meaning.specs.StopLimits.{atom_within}
use Rattle.logic_meaning.specs.NormalForm.{normal_atom}
use Rattle.formula_tree.specs.Trees.{members}
use Rattle.nnf_trees.specs.declared.nnf.Nnf.{Nnf}
use Rattle.nnf_trees.specs.Nnfs.{nnf_of, IsProper, AreProper}
use Rattle.test_points.specs.declared.error.PointError.{PointError}
use Rattle.test_points.specs.declared.error.PointError.TheVariants.{Overflow, Nodes, Memory}

-- the formula with x at the place: each atom in normal form, and folded
abbrev pub put : Context → ℕ → Place → Tree → Tree
put c x s f = folded (replaced (atom_at c (normal_atom c) x s) (λ y. y) f)

-- the same of each member
abbrev pub put_all : Context → ℕ → Place → Trees → Trees
put_all c x s fs = all_folded (all_replaced (atom_at c (normal_atom c) x s) (λ y. y) fs)

-- no number that an atom forms at the place passes the limit
abbrev pub all_within : Context → ℕ → Place → Tree → Bool
all_within c x s f = each (atom_within c x s) (atoms_in f)

abbrev pub each_within : Context → ℕ → Place → Trees → Bool
each_within c x s fs = each (atom_within c x s) (atoms_in_all fs)

-- the error says that a number passes the limit, or nothing
abbrev pub Fails : PointError → Bool → Type 0
Fails Overflow within = within ≡ false
Fails Nodes within = ⊥
Fails Memory within = Unit {0}

-- the program's formula is f with x at the place, and no number passes the limit
pub record IsPut (c : Context) (x : ℕ) (s : Place) (f : Tree) (g : Nnf) : Type 0 where
  pub formula : nnf_of g ≡ put c x s f
  pub proper : IsProper g
  pub within : all_within c x s f ≡ true

-- the same of a list
pub record ArePut (c : Context) (x : ℕ) (s : Place) (fs : Trees) (gs : List Nnf) : Type 0 where
  pub formulas : members (map nnf_of gs) ≡ put_all c x s fs
  pub proper : AreProper gs
  pub within : each_within c x s fs ≡ true

-- the point's numbers are within the limit, and those of each atom at it: of a step's points this is `step_within`
abbrev pub point_within : Context → ℕ → Tree → Place → Bool
point_within c x f s = place_within s && each (atom_within c x s) (atoms_of f)

-- over the integers: the formula and the guard of the place, joined
abbrev pub with_guard : Place → Tree → Tree
with_guard s f = fold_list Conjunction (both (normalised (normal_atom Integers) (guard_of Integers s)) f)

-- the formula is the constant false
abbrev pub is_no : Tree → Bool
is_no No = true
is_no f = false

-- the formula, where it is not false
abbrev pub unless_false : Tree → Trees
unless_false No = none
unless_false f = also f none

-- the program's formula is what a step leaves of f at the place, and no number passes the limit
pub record IsResultAt (c : Context) (x : ℕ) (s : Place) (f : Tree) (g : Nnf) : Type 0 where
  pub formula : nnf_of g ≡ result_at c (normal_atom c) x s f
  pub proper : IsProper g
  pub within : point_within c x f s ≡ true

-- the same of all places, without what is false
pub record AreResults (c : Context) (x : ℕ) (f : Tree) (places : List Place) (gs : List Nnf) : Type 0 where
  pub formulas : members (map nnf_of gs) ≡ trees_left (results c (normal_atom c) x f places)
  pub proper : AreProper gs
  pub within : each (point_within c x f) places ≡ true
