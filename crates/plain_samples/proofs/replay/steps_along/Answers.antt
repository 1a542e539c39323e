use Rattle.std.proofs.Common.{rules, ◌≡◌, List, [], ◌∷◌, ◌++◌, All, length, sym, ap, ◌∙◌, subst}
use Rattle.std.proofs.lemmas.List.{append-nil}
use Rattle.std.proofs.lemmas.List.Elements.{All-nil}
use Rattle.logic_meaning.specs.Tree.{Tree}
use Rattle.normal_atoms.specs.Atoms.{context_of}
use Rattle.nnf_trees.specs.Nnfs.{nnf_of}
use Rattle.test_points.specs.declared.points.TestPoint.{TestPoint}
use Rattle.reference_engine.proofs.Standing.{nothing}
use Rattle.plain_samples.specs.declared.step.Step.{Step}
use Rattle.plain_samples.specs.Steps.{steps_of, IsStep}
use Rattle.plain_samples.specs.Replay.{taken_from, AreTakable}
use Rattle.plain_samples.proofs.Walking.{steps_more, sound_more}
use Rattle.plain_samples.proofs.replay.steps_along.Goals as goal

pub loop-point-init : goal.loop-point-init
loop-point-init c =
    let o = context_of c.args.context in
    let root = nnf_of c.args.root in
    let all = c.into_iter-point-iterator.ensures.into_iter_gives.0 in
    record {
      can = tt;
      finite = tt;
      proper = c.requires.proper;
      takable = subst (AreTakable o root) (sym all) c.requires.takable;
      steps = ap (λ (xs : List Step). steps_of xs ++ taken_from o root c.into_iter-point-iterator.result.rest.items) c.new-steps.ensures.items ∙ ap (taken_from o root) all;
      sound = subst (All (IsStep o)) (sym c.new-steps.ensures.items) (All-nil (IsStep o));
    }

pub after-requires-clause-takable : goal.after-requires-clause-takable
after-requires-clause-takable c =
    let split : c.loop-point.point-iterator.rest.items ≡ c.in-Some.point ∷ c.next.new.self.rest.items = search rules in
    (subst (AreTakable (context_of c.args.context) (nnf_of c.loop-point.formula)) split c.loop-point.invariant.takable).0

pub loop-point-preserved : goal.loop-point-preserved
loop-point-preserved c =
    let o = context_of c.args.context in
    let f = nnf_of c.loop-point.formula in
    let made = c.loop-point.steps.items in
    let rest = c.next.new.self.rest.items in
    let all = taken_from o (nnf_of c.args.root) c.args.points.items in
    let step : Step = record { point = c.in-Some.point; branch = c.loop-point.formula } in
    let split : c.loop-point.point-iterator.rest.items ≡ c.in-Some.point ∷ rest = search rules in
    let takable = subst (AreTakable o f) split c.loop-point.invariant.takable in
    let pushed : c.push.new.self.items ≡ made ++ step ∷ [] = search rules in
    record {
      can = tt;
      finite = tt;
      proper = c.in_ok-left.ensures.proper;
      takable = subst (λ (g : Tree). AreTakable o g rest) (sym c.in_ok-left.ensures.formula) takable.1;
      steps = steps_more o made c.push.new.self.items step (nnf_of c.in_ok-left.left) rest all (subst (λ (ts : List TestPoint). steps_of made ++ taken_from o f ts ≡ all) split c.loop-point.invariant.steps) c.in_ok-left.ensures.formula pushed;
      sound = sound_more o made c.push.new.self.items step c.loop-point.invariant.sound takable.0 c.loop-point.invariant.proper pushed;
    }

pub returns-clause-steps : goal.returns-clause-steps
returns-clause-steps c =
    let o = context_of c.args.context in
    let f = nnf_of c.loop-point.formula in
    let made = c.loop-point.steps.items in
    let left = c.loop-point.point-iterator.rest.items in
    let none_left : length left ≡ 0 = search rules in
    sym (append-nil (steps_of made)) ∙ ap (λ (ts : List TestPoint). steps_of made ++ taken_from o f ts) (sym (nothing left none_left)) ∙ c.loop-point.invariant.steps
