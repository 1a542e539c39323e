-- The children of a branch at the points of a name.
use Rattle.std.specs.Prelude.{◌≡◌, ◌≤◌, ◌++◌, Bool, List, All, Option, IfSome, IsSomeAnd, IsTrue, length, map, option_map, option_to_list}
use Rattle.logic_meaning.specs.Context as meaning
use Rattle.logic_meaning.specs.Formula.{Yes}
use Rattle.logic_meaning.specs.Some.{EachOf}
use Rattle.logic_meaning.specs.Tree.{Tree}
use Rattle.logic_meaning.specs.BothTheories.{IsPlaceIn}
use Rattle.logic_meaning.specs.Steps.{Result, result_at}
use Rattle.normal_atoms.specs.declared.atoms.Context.{Context}
use Rattle.normal_atoms.specs.Atoms.{context_of, atom_of}
use Rattle.logic_meaning.specs.NormalForm.{normal_atom}
use Rattle.shape_theory.specs.Texts.{IsNoLarger}
use Rattle.logic_meaning.specs.declared.form.VarId.{VarId}
use Rattle.formula_tree.specs.declared.shape.Shape.{Shape}
use Rattle.formula_store.specs.declared.id.FormulaId.{FormulaId}
use Rattle.formula_store.specs.Nodes.{tree, IsId}
use Rattle.test_points.specs.Points.{place_of, IsPointOf}
use Rattle.case_theory.specs.Points.{ArePointsFor}
use Rattle.case_theory.specs.Children.{AreChildren}
use Rattle.branch_points.specs.declared.choice.Chosen.{Chosen}
use Rattle.branch_rounds.specs.declared.work.Work.{Work}
use Rattle.test_points.specs.declared.points.TestPoint.{TestPoint}
use Rattle.branch_rounds.specs.declared.children.Child.{Child}
use Rattle.branch_rounds.specs.Worked.{IsLeft, guarded}

-- the points are those of one name, at places of the theory, and enough for it in the formula
pub record HasPoints (c : Context) (f : Tree) (ch : Chosen) : Type 0 where
  pub points : All (IsPointOf ch.name) ch.points.items
  pub places : All (λ t. IsPlaceIn (context_of c) (place_of t)) ch.points.items
  pub suffice : ArePointsFor (context_of c) ch.name.number f (map place_of ch.points.items)

-- a child as a result of the theory
abbrev pub result_seen : List (Shape FormulaId) → Child → Result
result_seen nodes k = record { place = place_of k.point; tree = tree nodes k.formula }

-- its point is one of the name, and its formula one of the nodes, no larger than f with the name at the point
pub record IsChildOf (c : meaning.Context) (f : Tree) (nodes : List (Shape FormulaId)) (x : VarId) (k : Child) : Type 0 where
  pub is : IsId nodes k.formula
  pub point : IsPointOf x k.point
  pub no_larger : IsNoLarger (result_at c (normal_atom c) x.number (place_of k.point) f) (tree nodes k.formula)

-- together they are the children of the formula at the chosen points, under the assumptions, and no more than these
pub record AreChildrenOf (w : Work) (f : Tree) (ch : Chosen) (nodes : List (Shape FormulaId)) (children : List Child) : Type 0 where
  pub each : EachOf (IsChildOf (context_of w.context) f nodes ch.name) children
  pub few : length children ≤ length ch.points.items
  pub are : AreChildren (context_of w.context) (map atom_of w.assumed.now) ch.name.number f (map place_of ch.points.items) (map (result_seen nodes) children)

-- To the children comes what is left at the point of the formula that is put in there, if anything; it is true only where that is.
pub record IsAdded (w : Work) (put : Tree) (t : TestPoint) (nodes : List (Shape FormulaId)) (old new : List Child) (is_true : Bool) : Type 0 where
  pub added : Option Child
  pub left : IsLeft (context_of w.context) (map atom_of w.assumed.now) (guarded (context_of w.context) (place_of t) put) nodes (option_map (λ (k : Child). k.formula) added)
  pub point : IfSome added (λ (k : Child). k.point ≡ t)
  pub is : new ≡ old ++ option_to_list added
  pub settled : IsTrue is_true → IsSomeAnd added (λ (k : Child). tree nodes k.formula ≡ Yes)
