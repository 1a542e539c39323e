use Rattle.std.proofs.Common.{◌+◌, ◌++◌, map, refl, subst, drop}
use Rattle.normal_atoms.specs.Atoms.{context_of}
use Rattle.language_meaning.specs.declared.tree.Relation.TheVariants.{Differs}
use Rattle.written_syntax.proofs.EntryLists.{none_left}
use Rattle.formula_resolving.proofs.PartLaws.{keeps_then}
use Rattle.smt_language.specs.Shapes.{comparison}
use Rattle.smt_resolver.specs.Values.{IsTermValue, IsAdded}
use Rattle.smt_resolver.proofs.Lists.{item_at}
use Rattle.smt_resolver.proofs.PartLists.{added_within, added_ids, parts_ids_stay}
use Rattle.smt_resolver.proofs.ChainLaws.{EachState, each_step, each_passes, each_ends}
use Rattle.smt_resolver.proofs.chains.add_differences.Goals as goal

pub returns-then-not-branch-clause-read : goal.returns-then-not-branch-clause-read
returns-then-not-branch-clause-read g c = λ fs t ts h k l.
    let d = context_of c.args.setting.now.context in let limit = c.args.setting.now.limit in
    let P = g.M.Maker.is_id c.loop-other.maker in let m = g.M.Maker.tree c.loop-other.maker in
    let Q = g.M.Maker.is_id c.comparison.new.maker in let u = g.M.Maker.tree c.comparison.new.maker in
    let i = c.loop-other.other-index in let vs = c.args.others.now in let w = c.other-item.result in
    let e = item_at vs i w w c.loop-other-test.true c.other-item.is refl in
    each_passes d limit (comparison Differs t) (IsTermValue d limit) (fs ++ map (comparison Differs t) ts) P m Q u c.loop-other.parts c.add.new.self w (drop (i + 1) vs) c.in_ok-value.value
    (subst (λ xs. EachState d limit (comparison Differs t) (IsTermValue d limit) (fs ++ map (comparison Differs t) ts) P m c.loop-other.parts xs) e (c.loop-other.invariant.state fs t ts h k l))
    c.in_ok-value.ensures.kept (λ y j. c.in_ok-value.ensures.read t y k j)
    (subst (λ b. IsAdded limit c.loop-other.parts c.in_ok-value.value b c.add.new.self) c.if-not-branch.true c.in_ok-add.ensures)

pub loop-other-preserved : goal.loop-other-preserved
loop-other-preserved g c =
    let d = context_of c.args.setting.now.context in let limit = c.args.setting.now.limit in
    let P = g.M.Maker.is_id c.loop-other.maker in let m = g.M.Maker.tree c.loop-other.maker in
    let Q = g.M.Maker.is_id c.comparison.new.maker in let u = g.M.Maker.tree c.comparison.new.maker in
    let i = c.loop-other.other-index in let vs = c.args.others.now in let w = c.other-item.result in
    let e = item_at vs i w w c.loop-other-test.true c.other-item.is refl in
    let a = subst (λ b. IsAdded limit c.loop-other.parts c.in_ok-value.value b c.add.new.self) c.if-not-branch.false c.in_ok-add.ensures in
    record {
      state = λ fs t ts h k l.
          each_step d limit (comparison Differs t) (IsTermValue d limit) (fs ++ map (comparison Differs t) ts) P m Q u c.loop-other.parts c.add.new.self w (drop (i + 1) vs) c.in_ok-value.value
          (subst (λ xs. EachState d limit (comparison Differs t) (IsTermValue d limit) (fs ++ map (comparison Differs t) ts) P m c.loop-other.parts xs) e (c.loop-other.invariant.state fs t ts h k l))
          c.in_ok-value.ensures.kept (λ y j. c.in_ok-value.ensures.read t y k j) a;
      within = added_within limit c.loop-other.parts c.add.new.self c.in_ok-value.value a;
      ids = added_ids Q limit c.loop-other.parts c.add.new.self c.in_ok-value.value a (parts_ids_stay P Q c.in_ok-value.ensures.kept.is c.loop-other.parts.parts.items c.loop-other.invariant.ids) c.in_ok-value.ensures.ids;
      kept = keeps_then _ _ _ _ _ _ c.loop-other.invariant.kept c.in_ok-value.ensures.kept;
    }

pub returns-clause-read : goal.returns-clause-read
returns-clause-read g c = λ fs t ts h k l.
    let d = context_of c.args.setting.now.context in let limit = c.args.setting.now.limit in
    let P = g.M.Maker.is_id c.loop-other.maker in let m = g.M.Maker.tree c.loop-other.maker in
    each_ends d limit (comparison Differs t) (IsTermValue d limit) (fs ++ map (comparison Differs t) ts) P m c.loop-other.parts
    (subst (λ xs. EachState d limit (comparison Differs t) (IsTermValue d limit) (fs ++ map (comparison Differs t) ts) P m c.loop-other.parts xs) (none_left c.args.others.now c.loop-other.other-index c.loop-other-test.false) (c.loop-other.invariant.state fs t ts h k l))
