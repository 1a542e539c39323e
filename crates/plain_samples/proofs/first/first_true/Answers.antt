use Rattle.std.proofs.Common.{rules, ◌≡◌, ◌∷◌, Vec, Global, All, length, false, sym, ◌∙◌, subst}
use Rattle.nnf_trees.specs.Nnfs.{nnf_of}
use Rattle.test_points.specs.declared.points.TestPoint.{TestPoint}
use Rattle.test_points.specs.Points.{IsTestPoint}
use Rattle.reference_engine.specs.Stand.{AreSound}
use Rattle.reference_engine.proofs.Standing.{nothing}
use Rattle.plain_samples.specs.First.{is_yes, IsFirst}
use Rattle.plain_samples.proofs.TracedCasesChoosing.{IsBehind, behind_begins, behind_goes_on, behind_found, behind_ends, there_if, absent_if}
use Rattle.plain_samples.proofs.first.first_true.Goals as goal

pub loop-leaf-init : goal.loop-leaf-init
loop-leaf-init c =
    let all = c.into_iter-leaf-iterator.ensures.into_iter_gives.0 in
    record {
      can = tt;
      finite = tt;
      behind = λ bs h. subst (IsBehind bs) (sym all) (behind_begins bs c.args.leaves.items h);
      sound = subst AreSound (sym all) c.requires;
    }

pub loop-leaf-preserved : goal.loop-leaf-preserved
loop-leaf-preserved c =
    let leaf = c.in-Some.leaf in
    let rest = c.next.new.self.rest.items in
    let split : c.loop-leaf.leaf-iterator.rest.items ≡ leaf ∷ rest = search rules in
    let passes : is_yes (nnf_of leaf.formula) ≡ false = absent_if (is_yes (nnf_of leaf.formula)) leaf.points (search rules) in
    record {
      can = tt;
      finite = tt;
      behind = λ bs h. behind_goes_on bs leaf rest (subst (IsBehind bs) split (c.loop-leaf.invariant.behind bs h)) passes;
      sound = (subst AreSound split c.loop-leaf.invariant.sound).1;
    }

pub returns-in-Some-points_if_true-clause-choice : goal.returns-in-Some-points_if_true-clause-choice
returns-in-Some-points_if_true-clause-choice c = λ bs h.
    let leaf = c.in-Some.leaf in
    let rest = c.next.new.self.rest.items in
    let split : c.loop-leaf.leaf-iterator.rest.items ≡ leaf ∷ rest = search rules in
    let there = there_if (is_yes (nnf_of leaf.formula)) leaf.points c.in-Some-points_if_true.points (sym c.in-Some-points_if_true.is ∙ c.points_if_true.ensures) in
    subst (λ (v : Vec TestPoint Global). IsFirst bs v.items) there.1 (behind_found bs leaf rest (subst (IsBehind bs) split (c.loop-leaf.invariant.behind bs h)) there.0)

pub returns-in-Some-points_if_true-clause-points : goal.returns-in-Some-points_if_true-clause-points
returns-in-Some-points_if_true-clause-points c =
    let leaf = c.in-Some.leaf in
    let split : c.loop-leaf.leaf-iterator.rest.items ≡ leaf ∷ c.next.new.self.rest.items = search rules in
    let there = there_if (is_yes (nnf_of leaf.formula)) leaf.points c.in-Some-points_if_true.points (sym c.in-Some-points_if_true.is ∙ c.points_if_true.ensures) in
    subst (λ (v : Vec TestPoint Global). All IsTestPoint v.items) there.1 (subst AreSound split c.loop-leaf.invariant.sound).0.points

pub returns-clause-choice : goal.returns-clause-choice
returns-clause-choice c = λ bs h.
    let none_left : length c.loop-leaf.leaf-iterator.rest.items ≡ 0 = search rules in
    behind_ends bs c.loop-leaf.leaf-iterator.rest.items (c.loop-leaf.invariant.behind bs h) (nothing c.loop-leaf.leaf-iterator.rest.items none_left)
