-- Test points put into one formula, each on its own.
use Rattle.std.specs.Prelude.{◌≡◌, ℕ, List, [], ◌∷◌, Some, All, slice_get}
use Rattle.logic_meaning.specs.Plain.{IsPlain}
use Rattle.formula_laws.specs.Equivalence.{InContext}
use Rattle.normal_atoms.specs.declared.atoms.Context.{Context}
use Rattle.normal_atoms.specs.Atoms.{context_of}
use Rattle.formula_tree.specs.declared.shape.Shape.{Shape}
use Rattle.formula_store.specs.declared.id.FormulaId.{FormulaId}
use Rattle.formula_store.specs.Changes.{Change}
use Rattle.formula_store.specs.Nodes.{tree, IsId}
use Rattle.formula_store.specs.Order.{IsOrder}
use Rattle.nnf_trees.specs.Placed.{all_within}
use Rattle.test_points.specs.declared.points.TestPoint.{TestPoint}
use Rattle.test_points.specs.Points.{place_of}
use Rattle.virtual_subst.specs.declared.error.SubstError.{SubstError}
use Rattle.virtual_subst.specs.Shared.{Stops, IsAtPlace, IsPutAt}

-- the points, and a formula of a store into which each of them is put
pub record Phase : Type 0 where
  pub nodes : List (Shape FormulaId)
  pub context : Context
  pub root : FormulaId
  pub points : List TestPoint

-- the formula is one into which points are put, the points are of the theory, and the ids are those of its distinct subformulas
pub record IsPhase (p : Phase) (ids : List FormulaId) : Type 0 where
  pub id : IsId p.nodes p.root
  pub listed : IsOrder p.nodes (p.root ∷ []) ids
  pub is_plain : IsPlain (tree p.nodes p.root)
  pub in_context : InContext (context_of p.context) (tree p.nodes p.root)
  pub places : All (IsAtPlace p.context) p.points

-- what is made is the formula at the point of this number
abbrev pub IsPutAtPiece : Phase → ℕ → Change → Type 0
IsPutAtPiece p i d = (t : TestPoint) → slice_get p.points i ≡ Some t → IsPutAt p.context t p.nodes p.root d

-- why the point of this number is not put in
abbrev pub StopsAtPiece : Phase → ℕ → SubstError → Type 0
StopsAtPiece p i e = (t : TestPoint) → slice_get p.points i ≡ Some t → Stops e (all_within (context_of p.context) t.name.number (place_of t) (tree p.nodes p.root))
