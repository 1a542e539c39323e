use Rattle.std.proofs.Common.{◌+◌, [], refl, sym, subst, drop, arith}
use Rattle.std.specs.List.{AllByRecursion}
use Rattle.std.specs.Option.{ForSome}
use Rattle.normal_atoms.specs.Atoms.{context_of}
use Rattle.language_meaning.specs.declared.tree.Relation.TheVariants.{Differs}
use Rattle.written_syntax.proofs.EntryLists.{none_left}
use Rattle.formula_resolving.proofs.PartLaws.{keeps_same, keeps_then}
use Rattle.smt_language.specs.Shapes.{comparison, pairs}
use Rattle.smt_resolver.specs.Values.{AreEach, IsLevelPart, IsTermValue}
use Rattle.smt_resolver.proofs.Lists.{item_at, slice_rest}
use Rattle.smt_resolver.proofs.ChainLaws.{PairState, pair_step, pair_passes, pair_ends, when_true, when_false}
use Rattle.smt_resolver.proofs.chains.differences.Goals as goal

pub loop-place-init : goal.loop-place-init
loop-place-init g c = record {
  state = λ ts h. record {
    done = [];
    rest = ts;
    parts = refl;
    ready = record { nodes = c.none-parts.ensures.nodes; parts = subst (AreEach (IsLevelPart (context_of c.args.setting.now.context) (g.M.Maker.is_id c.args.maker.now) (g.M.Maker.tree c.args.maker.now)) []) (sym c.none-parts.ensures.parts) tt };
    values = h;
  };
  within = (let e = c.none-parts.ensures.nodes in omega (arith, e));
  ids = subst (AllByRecursion (λ p. ForSome p.id (g.M.Maker.is_id c.args.maker.now))) (sym c.none-parts.ensures.parts) tt;
  kept = keeps_same (g.M.Maker.is_id c.args.maker.now) (g.M.Maker.tree c.args.maker.now);
}

pub returns-in_err-add_differences-clause-kept : goal.returns-in_err-add_differences-clause-kept
returns-in_err-add_differences-clause-kept g c = keeps_then _ _ _ _ _ _ c.loop-place.invariant.kept c.in_err-add_differences.ensures.kept

pub returns-then-not-branch-clause-kept : goal.returns-then-not-branch-clause-kept
returns-then-not-branch-clause-kept g c = keeps_then _ _ _ _ _ _ c.loop-place.invariant.kept c.in_ok-add_differences.ensures.kept

pub returns-then-not-branch-clause-read : goal.returns-then-not-branch-clause-read
returns-then-not-branch-clause-read g c = λ ts h.
    let d = context_of c.args.setting.now.context in let limit = c.args.setting.now.limit in
    let P = g.M.Maker.is_id c.loop-place.maker in let m = g.M.Maker.tree c.loop-place.maker in
    let vs = c.args.terms.now in let w = c.index-terms-place.result in
    let e = item_at vs c.loop-place.place w w c.loop-place-test.true c.index-terms-place.is refl in
    pair_passes d limit (comparison Differs) (IsTermValue d limit) (pairs (comparison Differs) ts) P m c.loop-place.parts w (drop (c.loop-place.place + 1) vs)
    (subst (λ xs. PairState d limit (comparison Differs) (IsTermValue d limit) (pairs (comparison Differs) ts) P m c.loop-place.parts xs) e (c.loop-place.invariant.state ts h))
    (λ fs x xs r k l. when_false _ _ _ c.if-not-branch.true (c.in_ok-add_differences.ensures.read fs x xs r k (subst (AreEach (IsTermValue d limit) xs) (sym (slice_rest vs (c.loop-place.place + 1))) l)))

pub loop-place-preserved : goal.loop-place-preserved
loop-place-preserved g c =
    let d = context_of c.args.setting.now.context in let limit = c.args.setting.now.limit in
    let P = g.M.Maker.is_id c.loop-place.maker in let m = g.M.Maker.tree c.loop-place.maker in
    let Q = g.M.Maker.is_id c.add_differences.new.maker in let u = g.M.Maker.tree c.add_differences.new.maker in
    let vs = c.args.terms.now in let w = c.index-terms-place.result in
    let e = item_at vs c.loop-place.place w w c.loop-place-test.true c.index-terms-place.is refl in
    record {
      state = λ ts h.
          pair_step d limit (comparison Differs) (IsTermValue d limit) (pairs (comparison Differs) ts) P m Q u c.loop-place.parts c.add_differences.new.parts w (drop (c.loop-place.place + 1) vs)
          (subst (λ xs. PairState d limit (comparison Differs) (IsTermValue d limit) (pairs (comparison Differs) ts) P m c.loop-place.parts xs) e (c.loop-place.invariant.state ts h))
          (λ fs x xs r k l. when_true _ _ _ c.if-not-branch.false (c.in_ok-add_differences.ensures.read fs x xs r k (subst (AreEach (IsTermValue d limit) xs) (sym (slice_rest vs (c.loop-place.place + 1))) l)));
      within = c.in_ok-add_differences.ensures.within c.if-not-branch.false;
      ids = c.in_ok-add_differences.ensures.ids c.if-not-branch.false;
      kept = keeps_then _ _ _ _ _ _ c.loop-place.invariant.kept c.in_ok-add_differences.ensures.kept;
    }

pub returns-clause-read : goal.returns-clause-read
returns-clause-read g c = λ ts h.
    let d = context_of c.args.setting.now.context in let limit = c.args.setting.now.limit in
    let P = g.M.Maker.is_id c.loop-place.maker in let m = g.M.Maker.tree c.loop-place.maker in
    pair_ends d limit (comparison Differs) (IsTermValue d limit) (pairs (comparison Differs) ts) P m c.loop-place.parts
    (subst (λ xs. PairState d limit (comparison Differs) (IsTermValue d limit) (pairs (comparison Differs) ts) P m c.loop-place.parts xs) (none_left c.args.terms.now c.loop-place.place c.loop-place-test.false) (c.loop-place.invariant.state ts h))
