use Rattle.std.proofs.Common.{rules, ◌≡◌, List, [], ◌∷◌, ◌++◌, length, sym, subst}
use Rattle.normal_atoms.specs.Atoms.{context_of}
use Rattle.logic_meaning.specs.Reference.{steps}
use Rattle.reference_engine.specs.declared.branch.Leaf.{Leaf}
use Rattle.reference_engine.specs.Stand.{AreSound, AreInside}
use Rattle.reference_engine.proofs.Standing.{sound_appended, nothing}
use Rattle.reference_engine.proofs.Stepping.{IsOnTheWay, way_begins, way_goes_on, way_ends}
use Rattle.reference_engine.proofs.step.case_steps.Goals as goal

pub loop-leaf-init : goal.loop-leaf-init
loop-leaf-init c =
    let o = context_of c.args.setting.context in
    let x = c.args.x.number in
    let limit = c.args.setting.limit in
    let cost = c.args.cost.now in
    let all = c.into_iter-leaf-iterator.ensures.into_iter_gives.0 in
    record {
      can = tt;
      finite = tt;
      way = λ bs h.
          subst (λ (xs : List Leaf). IsOnTheWay o limit x xs c.into_iter-leaf-iterator.result.rest.items cost (steps o limit x bs cost)) (sym c.new-left.ensures.items)
          (subst (λ (xs : List Leaf). IsOnTheWay o limit x [] xs cost (steps o limit x bs cost)) (sym all) (way_begins o limit x c.args.leaves.items bs cost h));
      left = subst AreSound (sym c.new-left.ensures.items) tt;
      rest = subst AreSound (sym all) c.requires.sound;
      inside = subst (AreInside o) (sym all) c.requires.inside;
    }

pub loop-leaf-preserved : goal.loop-leaf-preserved
loop-leaf-preserved c =
    let o = context_of c.args.setting.context in
    let x = c.args.x.number in
    let limit = c.args.setting.limit in
    let left = c.loop-leaf.left.items in
    let more = c.in_ok-made.made.items in
    let rest = c.next.new.self.rest.items in
    let split : c.loop-leaf.leaf-iterator.rest.items ≡ c.in-Some.leaf ∷ rest = search rules in
    let appended : c.append.new.self.items ≡ left ++ more = search rules in
    record {
      can = tt;
      finite = tt;
      way = λ bs h.
          let all = steps o limit x bs c.args.cost.now in
          way_goes_on o limit x left c.append.new.self.items rest more c.in-Some.leaf c.loop-leaf.cost c.one_step.new.cost all (subst (λ (xs : List Leaf). IsOnTheWay o limit x left xs c.loop-leaf.cost all) split (c.loop-leaf.invariant.way bs h)) c.in_ok-made.ensures.told appended;
      left = subst AreSound (sym appended) (sound_appended left more c.loop-leaf.invariant.left c.in_ok-made.ensures.sound);
      rest = (subst AreSound split c.loop-leaf.invariant.rest).1;
      inside = (subst (AreInside o) split c.loop-leaf.invariant.inside).1;
    }

pub returns-clause-told : goal.returns-clause-told
returns-clause-told c = λ bs h.
    let o = context_of c.args.setting.context in
    let x = c.args.x.number in
    let limit = c.args.setting.limit in
    let none_left : length c.loop-leaf.leaf-iterator.rest.items ≡ 0 = search rules in
    way_ends o limit x c.loop-leaf.left.items c.loop-leaf.leaf-iterator.rest.items c.loop-leaf.cost (steps o limit x bs c.args.cost.now) (c.loop-leaf.invariant.way bs h) (nothing c.loop-leaf.leaf-iterator.rest.items none_left)
