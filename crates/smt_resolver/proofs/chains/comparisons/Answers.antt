use Rattle.std.proofs.Common.{◌+◌, ◌∷◌, refl, sym, subst, drop, arith}
use Rattle.std.specs.List.{AllByRecursion}
use Rattle.std.specs.Option.{ForSome}
use Rattle.normal_atoms.specs.Atoms.{context_of}
use Rattle.written_syntax.proofs.EntryLists.{none_left}
use Rattle.formula_resolving.proofs.PartLaws.{keeps_same, keeps_then}
use Rattle.smt_language.specs.Shapes.{comparison, neighbours}
use Rattle.smt_resolver.specs.Values.{IsTermValue, IsAdded}
use Rattle.smt_resolver.proofs.Lists.{item_at}
use Rattle.smt_resolver.proofs.PartLists.{added_within, added_ids, parts_ids_stay}
use Rattle.smt_resolver.proofs.ChainLaws.{ChainState, chain_begins, chain_step, chain_passes, chain_ends}
use Rattle.smt_resolver.proofs.chains.comparisons.Goals as goal

pub loop-right-init : goal.loop-right-init
loop-right-init g c = record {
  state = λ t ts h k. chain_begins (context_of c.args.setting.now.context) c.args.setting.now.limit (comparison c.args.relation) (neighbours (comparison c.args.relation) (t ∷ ts)) (g.M.Maker.is_id c.args.maker.now) (g.M.Maker.tree c.args.maker.now)
      (IsTermValue (context_of c.args.setting.now.context) c.args.setting.now.limit) c.none-parts.result t ts c.args.first.now c.args.others.now refl c.none-parts.ensures.nodes c.none-parts.ensures.parts h k;
  within = (let e = c.none-parts.ensures.nodes in omega (arith, e));
  ids = subst (AllByRecursion (λ p. ForSome p.id (g.M.Maker.is_id c.args.maker.now))) (sym c.none-parts.ensures.parts) tt;
  kept = keeps_same (g.M.Maker.is_id c.args.maker.now) (g.M.Maker.tree c.args.maker.now);
}

pub returns-in_err-value-clause-kept : goal.returns-in_err-value-clause-kept
returns-in_err-value-clause-kept g c = keeps_then _ _ _ _ _ _ c.loop-right.invariant.kept c.in_err-value.ensures.kept

pub returns-in_err-add-clause-kept : goal.returns-in_err-add-clause-kept
returns-in_err-add-clause-kept g c = keeps_then _ _ _ _ _ _ c.loop-right.invariant.kept c.in_ok-value.ensures.kept

pub returns-then-not-branch-clause-kept : goal.returns-then-not-branch-clause-kept
returns-then-not-branch-clause-kept g c = keeps_then _ _ _ _ _ _ c.loop-right.invariant.kept c.in_ok-value.ensures.kept

pub returns-then-not-branch-clause-read : goal.returns-then-not-branch-clause-read
returns-then-not-branch-clause-read g c = λ t ts h k.
    let d = context_of c.args.setting.now.context in let limit = c.args.setting.now.limit in
    let P = g.M.Maker.is_id c.loop-right.maker in let m = g.M.Maker.tree c.loop-right.maker in
    let Q = g.M.Maker.is_id c.comparison.new.maker in let u = g.M.Maker.tree c.comparison.new.maker in
    let i = c.loop-right.right-index in let vs = c.args.others.now in let w = c.right-item.result in
    let e = item_at vs i w w c.loop-right-test.true c.right-item.is refl in
    chain_passes d limit (comparison c.args.relation) (neighbours (comparison c.args.relation) (t ∷ ts)) P m Q u (IsTermValue d limit) c.loop-right.parts c.add.new.self c.loop-right.left.now w (drop (i + 1) vs) c.in_ok-value.value
    (subst (λ xs. ChainState d limit (comparison c.args.relation) (neighbours (comparison c.args.relation) (t ∷ ts)) P m (IsTermValue d limit) c.loop-right.parts c.loop-right.left.now xs) e (c.loop-right.invariant.state t ts h k))
    c.in_ok-value.ensures.kept c.in_ok-value.ensures.read
    (subst (λ b. IsAdded limit c.loop-right.parts c.in_ok-value.value b c.add.new.self) c.if-not-branch.true c.in_ok-add.ensures)

pub loop-right-preserved : goal.loop-right-preserved
loop-right-preserved g c =
    let d = context_of c.args.setting.now.context in let limit = c.args.setting.now.limit in
    let P = g.M.Maker.is_id c.loop-right.maker in let m = g.M.Maker.tree c.loop-right.maker in
    let Q = g.M.Maker.is_id c.comparison.new.maker in let u = g.M.Maker.tree c.comparison.new.maker in
    let i = c.loop-right.right-index in let vs = c.args.others.now in let w = c.right-item.result in
    let e = item_at vs i w w c.loop-right-test.true c.right-item.is refl in
    let a = subst (λ b. IsAdded limit c.loop-right.parts c.in_ok-value.value b c.add.new.self) c.if-not-branch.false c.in_ok-add.ensures in
    record {
      state = λ t ts h k.
          chain_step d limit (comparison c.args.relation) (neighbours (comparison c.args.relation) (t ∷ ts)) P m Q u (IsTermValue d limit) (IsTermValue d limit) c.loop-right.parts c.add.new.self c.loop-right.left.now w (drop (i + 1) vs) c.in_ok-value.value
          (subst (λ xs. ChainState d limit (comparison c.args.relation) (neighbours (comparison c.args.relation) (t ∷ ts)) P m (IsTermValue d limit) c.loop-right.parts c.loop-right.left.now xs) e (c.loop-right.invariant.state t ts h k))
          c.in_ok-value.ensures.kept (λ x y j. j) c.in_ok-value.ensures.read a;
      within = added_within limit c.loop-right.parts c.add.new.self c.in_ok-value.value a;
      ids = added_ids Q limit c.loop-right.parts c.add.new.self c.in_ok-value.value a (parts_ids_stay P Q c.in_ok-value.ensures.kept.is c.loop-right.parts.parts.items c.loop-right.invariant.ids) c.in_ok-value.ensures.ids;
      kept = keeps_then _ _ _ _ _ _ c.loop-right.invariant.kept c.in_ok-value.ensures.kept;
    }

pub returns-clause-read : goal.returns-clause-read
returns-clause-read g c = λ t ts h k.
    let d = context_of c.args.setting.now.context in let limit = c.args.setting.now.limit in
    let P = g.M.Maker.is_id c.loop-right.maker in let m = g.M.Maker.tree c.loop-right.maker in
    chain_ends d limit (comparison c.args.relation) (neighbours (comparison c.args.relation) (t ∷ ts)) P m (IsTermValue d limit) c.loop-right.parts c.loop-right.left.now
    (subst (λ xs. ChainState d limit (comparison c.args.relation) (neighbours (comparison c.args.relation) (t ∷ ts)) P m (IsTermValue d limit) c.loop-right.parts c.loop-right.left.now xs) (none_left c.args.others.now c.loop-right.right-index c.loop-right-test.false) (c.loop-right.invariant.state t ts h k))
