-- A formula of a store with a name at a place, made beside the store.
use Rattle.std.specs.Prelude.{◌≡◌, ◌≤◌, ◌<◌, ◌⊎◌, ℕ, Bool, true, false, List, [], ◌∷◌, ◌++◌, length, if◌then◌else◌}
use Rattle.std.specs.List.{AllByRecursion}
use Rattle.logic_meaning.specs.Atom as meant
use Rattle.logic_meaning.specs.Formula.{Yes, No}
use Rattle.logic_meaning.specs.BothTheories.{IsPlaceIn}
use Rattle.logic_meaning.specs.Steps.{atom_at}
use Rattle.logic_meaning.specs.StopLimits.{atom_within}
use Rattle.normal_atoms.specs.declared.atoms.Context.{Context}
use Rattle.normal_atoms.specs.declared.atoms.Normal.{Normal}
use Rattle.normal_atoms.specs.Atoms.{context_of, tree_of, IsWellFormedNormal}
use Rattle.logic_meaning.specs.NormalForm.{normal_atom}
use Rattle.formula_tree.specs.declared.shape.Shape.{Shape}
use Rattle.formula_tree.specs.Makers.{IsMade}
use Rattle.formula_store.specs.declared.id.FormulaId.{FormulaId}
use Rattle.formula_store.specs.Changes.{Change, tree_on}
use Rattle.formula_store.specs.Nodes.{tree, IsId}
use Rattle.formula_store.specs.Tables.{same_id}
use Rattle.nnf_trees.specs.Placed.{put, all_within}
use Rattle.test_points.specs.declared.points.TestPoint.{TestPoint}
use Rattle.test_points.specs.Points.{place_of, IsTestPoint}
use Rattle.virtual_subst.specs.declared.error.SubstError.{SubstError}
use Rattle.virtual_subst.specs.declared.error.SubstError.TheVariants.{Overflow, Memory}
use Rattle.virtual_subst.specs.declared.truths.Truths.{Truths}

-- the point is one of the theory
pub record IsAtPlace (c : Context) (t : TestPoint) : Type 0 where
  pub test_point : IsTestPoint t
  pub place : IsPlaceIn (context_of c) (place_of t)

-- the error says that a number passes the limit, or nothing
abbrev pub Stops : SubstError → Bool → Type 0
Stops Overflow within = within ≡ false
Stops Memory within = Unit {0}

-- the normal form is the atom's at the point, and no number passes the limit
pub record IsAtomPut (c : Context) (t : TestPoint) (a : meant.Atom) (n : Normal) : Type 0 where
  pub formula : tree_of n ≡ atom_at (context_of c) (normal_atom (context_of c)) t.name.number (place_of t) a
  pub well_formed : IsWellFormedNormal n
  pub within : atom_within (context_of c) t.name.number (place_of t) a ≡ true

-- among the nodes that are made, the copy stands for the formula at the point, and no number passes the limit
pub record IsNodePut (c : Context) (t : TestPoint) (nodes made : List (Shape FormulaId)) (id copy : FormulaId) : Type 0 where
  pub is : IsId made copy
  pub formula : tree made copy ≡ put (context_of c) t.name.number (place_of t) (tree nodes id)
  pub within : all_within (context_of c) t.name.number (place_of t) (tree nodes id) ≡ true

-- over the nodes, what was made beside them stands for the formula at the point, and no number passes the limit
pub record IsPutAt (c : Context) (t : TestPoint) (nodes : List (Shape FormulaId)) (id : FormulaId) (d : Change) : Type 0 where
  pub begun : d.begun ≤ length nodes
  pub formula : tree_on nodes d ≡ put (context_of c) t.name.number (place_of t) (tree nodes id)
  pub within : all_within (context_of c) t.name.number (place_of t) (tree nodes id) ≡ true

-- formulas, and what is made of each
abbrev pub Table : Type 0
Table = List (FormulaId × FormulaId)

-- the id that the table has for a formula, its own where there is none
abbrev pub made_of : Table → FormulaId → FormulaId
made_of [] id = id
made_of (p ∷ ps) id = if same_id p.0 id then p.1 else made_of ps id

-- each formula of the table comes after x
abbrev pub KeysAbove : ℕ → Table → Type 0
KeysAbove x ps = AllByRecursion (λ p. x < p.0.number) ps

-- the numbers of the formulas rise
abbrev pub KeysRise : Table → Type 0
KeysRise [] = Unit {0}
KeysRise (p ∷ ps) = KeysAbove p.0.number ps × KeysRise ps

-- the id of a constant
abbrev pub truth_in : Truths → Bool → FormulaId
truth_in t true = t.yes
truth_in t false = t.no

-- the ids are those of the constants
pub record AreTruths (nodes : List (Shape FormulaId)) (t : Truths) : Type 0 where
  pub yes : IsMade (IsId nodes) (tree nodes) t.yes Yes
  pub no : IsMade (IsId nodes) (tree nodes) t.no No

-- what the table has for the formula stands for it at the point
abbrev pub Held : Context → TestPoint → List (Shape FormulaId) → List (Shape FormulaId) → Table → FormulaId → Type 0
Held c t nodes made table id = IsNodePut c t nodes made id (made_of table id)

-- the copy for the formula is put last, or it is the formula itself
abbrev pub Notes : Table → Table → FormulaId → FormulaId → Type 0
Notes old new id copy = (new ≡ old ++ (id, copy) ∷ []) ⊎ ((copy ≡ id) × (new ≡ old))
