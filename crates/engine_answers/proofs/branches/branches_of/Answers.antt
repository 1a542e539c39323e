use Rattle.std.proofs.Common.{rules, ◌≡◌, ◌∷◌, [], ◌++◌, ◌-◌, ◌<◌, suc, length, refl, sym, subst, arith}
use Rattle.logic_meaning.specs.BothTheories.{IsPlaceIn}
use Rattle.normal_atoms.specs.Atoms.{context_of}
use Rattle.formula_store.specs.Nodes.{tree}
use Rattle.formula_store.proofs.Makes.{keeps_then}
use Rattle.logic_meaning.specs.Answer.{Answer}
use Rattle.test_points.specs.declared.points.TestPoint.{TestPoint}
use Rattle.test_points.specs.Points.{answer_of, place_of}
use Rattle.engine_answers.proofs.Branching.{each_at, built_first, built_down, passes_after}
use Rattle.engine_answers.proofs.branches.branches_of.Goals as goal

pub loop-place-init : goal.loop-place-init
loop-place-init c =
    let ts = c.args.answers.now in
    let some : 0 < length ts = search rules in
    let p = length ts - 1 in
    let ids : c.push.new.self.items ≡ c.args.matrix ∷ [] = search rules in
    let last : suc p ≡ length ts = omega (arith, some) in
    record {
      built = built_first (context_of c.args.context) ts (tree c.args.store.now c.args.matrix) c.args.store.now p c.args.matrix c.push.new.self.items c.requires.matrix refl last ids;
      below = omega (arith, some);
    }

pub result_shared-requires-clause-place : goal.result_shared-requires-clause-place
result_shared-requires-clause-place c =
    let t = c.index-answers-place.result in
    let place = each_at (λ (a : Answer). IsPlaceIn (context_of c.args.context) a.place) answer_of c.args.answers.now c.loop-place.place t c.requires.places c.loop-place.invariant.below in
    record {
      test_point = search rules;
      place = subst (λ (u : TestPoint). IsPlaceIn (context_of c.args.context) (place_of u)) (sym c.index-answers-place.is) place;
    }

pub returns-in-Err-Overflow-clause-overflow : goal.returns-in-Err-Overflow-clause-overflow
returns-in-Err-Overflow-clause-overflow c = λ e.
    let p = c.loop-place.place in
    let next : suc (p - 1) ≡ p = omega (arith, c.loop-place-test.true) in
    passes_after (context_of c.args.context) (tree c.args.store.now c.args.matrix) c.args.answers.now p (p - 1) c.index-answers-place.result next c.loop-place.invariant.below c.index-answers-place.is
    (tree c.loop-place.store c.loop-place.branch) c.loop-place.invariant.built.same (c.in-Err-Overflow.ensures.overflow c.in-Err-Overflow.field-0-is)

pub returns-in-Err-Overflow-clause-kept : goal.returns-in-Err-Overflow-clause-kept
returns-in-Err-Overflow-clause-kept c = keeps_then c.args.store.now c.loop-place.store c.result_shared.new.store c.loop-place.invariant.built.kept c.result_shared.ensures.kept

pub returns-in-Err-Memory-clause-kept : goal.returns-in-Err-Memory-clause-kept
returns-in-Err-Memory-clause-kept c = keeps_then c.args.store.now c.loop-place.store c.result_shared.new.store c.loop-place.invariant.built.kept c.result_shared.ensures.kept

pub returns-in_err-map_err-2-clause-kept : goal.returns-in_err-map_err-2-clause-kept
returns-in_err-map_err-2-clause-kept c = keeps_then c.args.store.now c.loop-place.store c.result_shared.new.store c.loop-place.invariant.built.kept c.result_shared.ensures.kept

pub loop-place-preserved : goal.loop-place-preserved
loop-place-preserved c =
    let k = context_of c.args.context in
    let p = c.loop-place.place in
    let t = c.index-answers-place.result in
    let next : suc (p - 1) ≡ p = omega (arith, c.loop-place-test.true) in
    let place = subst (λ (u : TestPoint). IsPlaceIn k (place_of u)) (sym c.index-answers-place.is)
    (each_at (λ (a : Answer). IsPlaceIn k a.place) answer_of c.args.answers.now p t c.requires.places c.loop-place.invariant.below) in
    let more : c.push-in-loop-place.new.self.items ≡ c.loop-place.ids.items ++ (c.in-Ok.put ∷ []) = search rules in
    let below = c.loop-place.invariant.below in
    record {
      built = built_down k c.args.answers.now (tree c.args.store.now c.args.matrix) c.args.store.now c.loop-place.store c.result_shared.new.store p (p - 1) t c.loop-place.branch c.in-Ok.put c.loop-place.ids.items
          c.push-in-loop-place.new.self.items next c.loop-place.invariant.built below c.index-answers-place.is place c.result_shared.ensures.kept c.in-Ok.ensures.made more;
      below = omega (arith, below);
    }
