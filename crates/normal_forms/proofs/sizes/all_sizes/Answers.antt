use Rattle.std.proofs.Common.{rules, ◌≡◌, List, [], ◌∷◌, get_or, inl, Some, sym, subst, arith, take}
use Rattle.std.proofs.lemmas.List.{take_all, take_more}
use Rattle.std.specs.List.{AllByRecursion}
use Rattle.std.specs.HashMap.{Updates}
use Rattle.formula_tree.proofs.Shapes.{listed_all}
use Rattle.formula_store.specs.declared.id.FormulaId.{FormulaId}
use Rattle.formula_store.specs.Order.{IsOrder, itself}
use Rattle.formula_store.proofs.Before.{each_id, members_before, among_all}
use Rattle.formula_store.proofs.Marked.{all_on, all_joined}
use Rattle.normal_forms.specs.Atoms.{same_id}
use Rattle.normal_forms.specs.Sizes.{IsThere}
use Rattle.normal_forms.proofs.Tables.{there_now, there_more, told_more}
use Rattle.normal_forms.proofs.sizes.all_sizes.Goals as goal

pub node_sizes-sizes-requires-clause-id : goal.node_sizes-sizes-requires-clause-id
node_sizes-sizes-requires-clause-id c =
    let ids : List FormulaId = c.deref-id-items.result.now in
    let o = subst (λ (l : List FormulaId). IsOrder c.args.store.now (c.args.id ∷ []) l) (sym c.deref-id-items.ensures.value) c.in_ok-ids.ensures.order in
    each_id c.args.store.now c.subformulas.ensures.nodes (c.args.id ∷ []) ids o (c.requires, tt) c.loop-id.id-index (record { number = 0 }) c.loop-id-test.true

pub node_sizes-sizes-requires-clause-members : goal.node_sizes-sizes-requires-clause-members
node_sizes-sizes-requires-clause-members c n here =
    let ids : List FormulaId = c.deref-id-items.result.now in
    let o = subst (λ (l : List FormulaId). IsOrder c.args.store.now (c.args.id ∷ []) l) (sym c.deref-id-items.ensures.value) c.in_ok-ids.ensures.order in
    let P : FormulaId → Type 0 = IsThere c.loop-id.table in
    listed_all P n (members_before c.args.store.now c.subformulas.ensures.nodes (c.args.id ∷ []) ids o c.loop-id.id-index (record { number = 0 }) c.loop-id-test.true n here P c.loop-id.invariant.there)

pub loop-id-preserved : goal.loop-id-preserved
loop-id-preserved c =
    let ids : List FormulaId = c.deref-id-items.result.now in
    let id : FormulaId = get_or ids c.loop-id.id-index (record { number = 0 }) in
    let front : List FormulaId = take c.loop-id.id-index ids in
    let nodes = c.args.store.now in
    let j = c.args.inner in
    let o = subst (λ (l : List FormulaId). IsOrder c.args.store.now (c.args.id ∷ []) l) (sym c.deref-id-items.ensures.value) c.in_ok-ids.ensures.order in
    let is = each_id c.args.store.now c.subformulas.ensures.nodes (c.args.id ∷ []) ids o (c.requires, tt) c.loop-id.id-index (record { number = 0 }) c.loop-id-test.true in
    let put : Updates same_id c.loop-id.table c.insert.new.self id (Some c.node_sizes-sizes.result) = search rules in
    let stays = there_more j nodes c.loop-id.table c.insert.new.self id c.node_sizes-sizes.result put.0 in
    record {
      told = told_more j nodes c.loop-id.table c.insert.new.self id c.node_sizes-sizes.result put.0 c.loop-id.invariant.told is c.node_sizes-sizes.ensures;
      there = rw (take_more ids c.loop-id.id-index (record { number = 0 }) c.loop-id-test.true)
          (all_joined (IsThere c.insert.new.self) front (id ∷ []) (all_on (IsThere c.loop-id.table) (IsThere c.insert.new.self) stays front c.loop-id.invariant.there)
          (there_now j nodes c.loop-id.table c.insert.new.self id c.node_sizes-sizes.result put.0, tt));
    }

pub returns-clause-there : goal.returns-clause-there
returns-clause-there c =
    let ids : List FormulaId = c.deref-id-items.result.now in
    let o = subst (λ (l : List FormulaId). IsOrder c.args.store.now (c.args.id ∷ []) l) (sym c.deref-id-items.ensures.value) c.in_ok-ids.ensures.order in
    let whole : take c.loop-id.id-index ids ≡ ids = take_all c.loop-id.id-index ids (omega arith) in
    among_all (IsThere c.loop-id.table) ids c.args.id (subst (λ (l : List FormulaId). AllByRecursion (IsThere c.loop-id.table) l) whole c.loop-id.invariant.there) (o.all c.args.id (inl itself))
