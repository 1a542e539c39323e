use Rattle.std.proofs.Common.{◌+◌, refl, subst, drop}
use Rattle.written_syntax.proofs.EntryLists.{none_left}
use Rattle.smt_resolver.specs.Values.{IsAdded}
use Rattle.smt_resolver.proofs.Lists.{item_at}
use Rattle.smt_resolver.proofs.PartLists.{GatherState, gather_passes, gather_step, gather_ends, added_within, added_ids, item_id}
use Rattle.formula_resolving.proofs.PartLaws.{ok_map}
use Rattle.smt_resolver.proofs.parts.joint.Goals as goal

pub returns-then-not-branch-clause-read : goal.returns-then-not-branch-clause-read
returns-then-not-branch-clause-read g c = λ d fs h.
    let i = c.loop-value.value-index in let vs = c.args.values.now in let v = c.value-item.result in
    let e = item_at vs i v v c.loop-value-test.true c.value-item.is refl in
    gather_passes d c.args.limit (g.M.Maker.is_id c.args.maker.now) (g.M.Maker.tree c.args.maker.now) fs c.loop-value.parts c.add.new.self v (drop (i + 1) vs) c.args.junction
    (subst (λ xs. GatherState d c.args.limit (g.M.Maker.is_id c.args.maker.now) (g.M.Maker.tree c.args.maker.now) fs c.loop-value.parts xs) e (c.loop-value.invariant.state d fs h))
    (subst (λ b. IsAdded c.args.limit c.loop-value.parts v b c.add.new.self) c.if-not-branch.true c.in_ok-add.ensures)

pub loop-value-preserved : goal.loop-value-preserved
loop-value-preserved g c =
    let i = c.loop-value.value-index in let vs = c.args.values.now in let v = c.value-item.result in
    let e = item_at vs i v v c.loop-value-test.true c.value-item.is refl in
    let a = subst (λ b. IsAdded c.args.limit c.loop-value.parts v b c.add.new.self) c.if-not-branch.false c.in_ok-add.ensures in
    record {
      state = λ d fs h. gather_step d c.args.limit (g.M.Maker.is_id c.args.maker.now) (g.M.Maker.tree c.args.maker.now) fs c.loop-value.parts c.add.new.self v (drop (i + 1) vs)
          (subst (λ xs. GatherState d c.args.limit (g.M.Maker.is_id c.args.maker.now) (g.M.Maker.tree c.args.maker.now) fs c.loop-value.parts xs) e (c.loop-value.invariant.state d fs h)) a;
      ids = added_ids (g.M.Maker.is_id c.args.maker.now) c.args.limit c.loop-value.parts c.add.new.self v a c.loop-value.invariant.ids (item_id (g.M.Maker.is_id c.args.maker.now) vs i v c.loop-value-test.true c.value-item.is c.requires);
      within = added_within c.args.limit c.loop-value.parts c.add.new.self v a;
    }

pub returns-clause-read : goal.returns-clause-read
returns-clause-read g c =
    ok_map c.joined.result
    (λ r f d fs h. f d fs (gather_ends d c.args.limit (g.M.Maker.is_id c.args.maker.now) (g.M.Maker.tree c.args.maker.now) fs c.loop-value.parts
    (subst (λ xs. GatherState d c.args.limit (g.M.Maker.is_id c.args.maker.now) (g.M.Maker.tree c.args.maker.now) fs c.loop-value.parts xs) (none_left c.args.values.now c.loop-value.value-index c.loop-value-test.false) (c.loop-value.invariant.state d fs h))))
    c.joined.ensures.read
