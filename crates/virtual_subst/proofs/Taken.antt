-- What is made beside a store and taken in, one after the other.
use Rattle.std.proofs.Common.{arith, ◌≡◌, ℕ, zero, suc, ◌+◌, ◌<◌, ◌≤◌, List, [], ◌∷◌, ◌++◌, Some, slice_get, get_or, map, length, refl, ap, ◌∙◌, subst, inl, inr}
use Rattle.std.specs.List.{AllByRecursion}
use Rattle.logic_meaning.specs.Some.{SomeOf}
use Rattle.logic_meaning.specs.Tree.{Tree}
use Rattle.formula_tree.specs.declared.shape.Shape.{Shape}
use Rattle.formula_tree.specs.Makers.{IsMade, AreMade, Keeps}
use Rattle.formula_store.specs.declared.id.FormulaId.{FormulaId}
use Rattle.formula_store.specs.Changes.{Change, tree_on}
use Rattle.formula_store.specs.Nodes.{tree, IsId}
use Rattle.nnf_trees.specs.Placed.{put}
use Rattle.normal_atoms.specs.Atoms.{context_of}
use Rattle.test_points.specs.declared.points.TestPoint.{TestPoint}
use Rattle.test_points.specs.Points.{place_of}
use Rattle.qe_parallel.specs.Fanned.{AnswerAll}
use Rattle.virtual_subst.specs.Phases.{Phase, IsPutAtPiece}
use Rattle.virtual_subst.specs.Shared.{IsPutAt}

-- formulas that were made stay made, and one more stands behind them
module _ (old new : List (Shape FormulaId)) (k : Keeps (IsId old) (tree old) (IsId new) (tree new)) (id : FormulaId) (f : Tree) (m : IsMade (IsId new) (tree new) id f) where
  are_more : (ids : List FormulaId) → AllByRecursion (IsId old) ids → AllByRecursion (IsId new) (ids ++ id ∷ [])
  are_more [] h = (m.is, tt)
  are_more (a ∷ ids) h = (k.is a h.0, are_more ids h.1)

  same_more : (ids : List FormulaId) → AllByRecursion (IsId old) ids → map (tree new) (ids ++ id ∷ []) ≡ map (tree old) ids ++ f ∷ []
  same_more [] h = ap (λ t. t ∷ []) m.same
  same_more (a ∷ ids) h = λ i. k.same a h.0 i ∷ same_more ids h.1 i

  pub made_more : (ids : List FormulaId) (fs : List Tree) → AreMade (IsId old) (tree old) ids fs → AreMade (IsId new) (tree new) (ids ++ id ∷ []) (fs ++ f ∷ [])
  made_more ids fs h = record { are = are_more ids h.are; same = same_more ids h.are ∙ ap (λ ts. ts ++ f ∷ []) h.same }

-- what is made at each of the points: it was begun beside the nodes, and stands there for the formula at the point
module _ (p : Phase) where
  pub record AreAtPoints (points : List TestPoint) (made : List Change) : Type 0 where
    pub begun : AllByRecursion (λ (d : Change). d.begun ≤ length p.nodes) made
    pub formulas : map (tree_on p.nodes) made ≡ map (λ t. put (context_of p.context) t.name.number (place_of t) (tree p.nodes p.root)) points

  at_points : (points : List TestPoint) (made : List Change) → length made ≡ length points
      → ((i : ℕ) (d : Change) (t : TestPoint) → slice_get made i ≡ Some d → slice_get points i ≡ Some t → IsPutAt p.context t p.nodes p.root d) → AreAtPoints points made
  at_points [] [] e h = record { begun = tt; formulas = refl }
  at_points [] (d ∷ made) e h = absurd (omega (arith, e))
  at_points (t ∷ points) [] e h = absurd (omega (arith, e))
  at_points (t ∷ points) (d ∷ made) e h =
      let rest = at_points points made (omega (arith, e)) (λ i d2 t2 a b. h (suc i) d2 t2 a b) in
      let first = h zero d t refl refl in
      record { begun = (first.begun, rest.begun); formulas = λ i. first.formula i ∷ rest.formulas i }

  pub all_at_points : (made : List Change) → AnswerAll (IsPutAtPiece p) 0 (length p.points) made → AreAtPoints p.points made
  all_at_points made a =
      at_points p.points made (omega (arith, a.count))
      (λ i d t x y. let e : 0 + i ≡ i = omega arith in subst (λ (n : ℕ). IsPutAtPiece p n d) e (a.each i d x) t y)

-- what is so of the point of a number is so of some point
pub some_at : (P : TestPoint → Type 0) (points : List TestPoint) (i : ℕ) → i < length points → ((t : TestPoint) → slice_get points i ≡ Some t → P t) → SomeOf P points
some_at P [] i lt h = absurd (omega (arith, lt))
some_at P (t ∷ points) zero lt h = inl (h t refl)
some_at P (t ∷ points) (suc i) lt h = inr (some_at P points i (omega (arith, lt)) h)

pub some_here : (P : TestPoint → Type 0) (points : List TestPoint) (i : ℕ) (t : TestPoint) → i < length points → t ≡ get_or points i t → P t → SomeOf P points
some_here P [] i t lt e h = absurd (omega (arith, lt))
some_here P (s ∷ points) zero t lt e h = inl (subst P e h)
some_here P (s ∷ points) (suc i) t lt e h = inr (some_here P points i t (omega (arith, lt)) e h)
