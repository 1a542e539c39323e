-- The steps of the first branch that is true.
use Rattle.std.proofs.Common.{◌≡◌, ℕ, Bool, List, All, subst}
use Rattle.std.specs.Prelude.{reverse}
use Rattle.std.proofs.lemmas.List.Elements.{recursion_from_All}
use Rattle.logic_meaning.specs.Context.{Context}
use Rattle.logic_meaning.specs.Some.{EachOf}
use Rattle.logic_meaning.specs.Tree.{Tree}
use Rattle.elimination_theory.proofs.SomeListed.{each_among}
use Rattle.logic_meaning.specs.Measured.{done}
use Rattle.formula_laws.specs.Giving.{Gives}
use Rattle.logic_meaning.specs.Reference.{Branch, branches}
use Rattle.elimination_theory.proofs.Branches.{IsBranch}
use Rattle.elimination_theory.proofs.Sound.{Good, branches_are}
use Rattle.sample_reference.specs.Traced.{IsTraced}
use Rattle.test_points.specs.declared.points.TestPoint.{TestPoint}
use Rattle.test_points.specs.Points.{IsTestPoint}
use Rattle.reference_engine.specs.Ready.{IsReady}
use Rattle.plain_samples.specs.First.{IsFirst}
use Rattle.plain_samples.specs.Replay.{taken_from, AreTakable}
use Rattle.plain_samples.specs.Rooted.{ComeFrom}
use Rattle.plain_samples.proofs.Walking.{IsInTheory, lead_inside, are_takable, taken_again}

module _ (c : Context) (limit : ℕ) (names : List ℕ) (sign : Bool) (f : Tree) (cost after : ℕ) (ready : IsReady c f) (root : Tree) (bs : List Branch) (ts : List TestPoint)
    (is : branches c limit names sign f cost ≡ done (bs, after)) (come : ComeFrom c root (branches c limit names sign f cost)) (first : IsFirst bs ts) (points : All IsTestPoint ts) where
  traced : IsTraced c root first.branch
  traced = each_among (IsTraced c root) bs first.branch (subst (ComeFrom c root) is come) first.among

  good : Good c limit names sign f bs
  good = subst (Gives (λ (r : List Branch × ℕ). Good c limit names sign f r.0)) is (branches_are c limit names sign f ready.0 ready.1 cost)

  inside : EachOf (IsInTheory c) first.branch.steps
  inside = lead_inside c first.branch.steps _ first.branch.tree (each_among (IsBranch c _ _) bs first.branch good.each first.among).lead

  each_point : EachOf IsTestPoint ts
  each_point = recursion_from_All IsTestPoint ts points

  -- the points can be put in again
  pub first_takable : AreTakable c root (reverse ts)
  first_takable = are_takable c root first.branch.steps ts first.branch.tree traced inside first.answers each_point

  -- and take the steps of the branch
  pub first_taken : first.branch.steps ≡ reverse (taken_from c root (reverse ts))
  first_taken = taken_again c root first.branch.steps ts first.branch.tree traced inside first.answers each_point
