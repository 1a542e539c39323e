-- What the program keeps of a branch: the formula that is left, and the test points that led to it.
use Rattle.std.specs.Prelude.{◌≡◌, ℕ, Bool, false, not, ◌&&◌, List, [], ◌∷◌, All, map, nat_eq, Result}
use Rattle.std.specs.declared.vec.Vec.{Vec}
use Rattle.std.specs.declared.alloc.Global.{Global}
use Rattle.std.specs.declared.result.Result.TheVariants.{Ok, Err}
use Rattle.logic_meaning.specs.Context.{Context}
use Rattle.logic_meaning.specs.Answer.{Place}
use Rattle.logic_meaning.specs.Formula.{Ex, All as ForAll}
use Rattle.logic_meaning.specs.Shape.{is_in}
use Rattle.logic_meaning.specs.Tree.{Tree}
use Rattle.formula_laws.specs.Equivalence.{InContext}
use Rattle.logic_meaning.specs.Answers.{answers_of, zero_place}
use Rattle.logic_meaning.specs.Steps.{results}
use Rattle.logic_meaning.specs.Measured.{Outcome, stopped, done}
use Rattle.logic_meaning.specs.Reference.{Branch, next_branch}
use Rattle.logic_meaning.specs.NormalForm.{normal_atom}
use Rattle.logic_meaning.specs.declared.form.VarId.{VarId}
use Rattle.nnf_trees.specs.Nnfs.{nnf_of, IsProper}
use Rattle.test_points.specs.declared.points.TestPoint.{TestPoint}
use Rattle.test_points.specs.Points.{answer_of, place_of, IsTestPoint, IsPointOf}
use Rattle.reference_engine.specs.declared.measured.Measured.{Measured}
use Rattle.reference_engine.specs.Told.{StopsWith}
use Rattle.reference_engine.specs.declared.branch.Leaf.{Leaf}

-- the leaf has the formula of the branch, and the answers of its steps
pub record StandsFor (l : Leaf) (b : Branch) : Type 0 where
  pub formula : nnf_of l.formula ≡ b.tree
  pub answers : map answer_of l.points.items ≡ answers_of b.steps

-- one for each
abbrev pub StandFor : List Leaf → List Branch → Type 0
StandFor [] [] = Unit {0}
StandFor [] (b ∷ bs) = ⊥
StandFor (l ∷ ls) [] = ⊥
StandFor (l ∷ ls) (b ∷ bs) = StandsFor l b × StandFor ls bs

-- the atoms of the formula and the points are well formed
pub record IsSound (l : Leaf) : Type 0 where
  pub proper : IsProper l.formula
  pub points : All IsTestPoint l.points.items

abbrev pub AreSound : List Leaf → Type 0
AreSound [] = Unit {0}
AreSound (l ∷ ls) = IsSound l × AreSound ls

-- each formula is one of the theory
abbrev pub AreInside : Context → List Leaf → Type 0
AreInside c [] = Unit {0}
AreInside c (l ∷ ls) = InContext c (nnf_of l.formula) × AreInside c ls

-- the point puts the name at 0
pub record IsZeroPoint (x : VarId) (t : TestPoint) : Type 0 where
  pub point_of : IsPointOf x t
  pub place : place_of t ≡ zero_place

-- the leaves stand for the branches of the computation, and the cost is its cost; or the error stops it
abbrev pub TellsOf : List Leaf → ℕ → Outcome (List Branch × ℕ) → Type 0
TellsOf ls cost (stopped s) = ⊥
TellsOf ls cost (done r) = StandFor ls r.0 × (r.1 ≡ cost)

abbrev pub Tells : Result (Vec Leaf Global) Measured → ℕ → Outcome (List Branch × ℕ) → Type 0
Tells (Ok v) cost o = TellsOf v.items cost o
Tells (Err e) cost o = StopsWith e o

-- the branches at the places, without what is false
abbrev pub results_at : Context → ℕ → Branch → List Place → List Branch
results_at c x b places = map (next_branch x b) (results c (normal_atom c) x b.tree places)

-- the formula, or for false its negation, begins with a quantifier of the chain of these names
abbrev pub goes_on : Bool → List ℕ → Tree → Bool
goes_on sign names (Ex x f) = sign && not (is_in nat_eq x names)
goes_on sign names (ForAll x f) = not sign && not (is_in nat_eq x names)
goes_on sign names f = false
