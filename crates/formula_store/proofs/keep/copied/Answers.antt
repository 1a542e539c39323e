use Rattle.std.proofs.Common.{rules, ◌+◌, ◌≡◌, ◌<◌, ◌≤◌, List, take, length, get_or, map, subst, sym, ap, ◌∙◌, arith, length-set, vec_len}
use Rattle.std.proofs.lemmas.List.{take_all}
use Rattle.std.proofs.lemmas.Result.{IfOk-weaker}
use Rattle.formula_tree.proofs.FromLinearForms.{on_ok}
use Rattle.std.specs.List.{AllByRecursion}
use Rattle.formula_tree.specs.Makers.{AreMade}
use Rattle.formula_tree.proofs.Shapes.{listed_all}
use Rattle.formula_store.specs.declared.id.FormulaId.{FormulaId}
use Rattle.formula_store.specs.Nodes.{IsId, tree}
use Rattle.formula_store.specs.Order.{IsOrder}
use Rattle.formula_store.specs.Copies.{first_id, ported, Copied}
use Rattle.formula_store.proofs.Before.{each_id, members_before, orders_alike}
use Rattle.formula_store.proofs.Copying.{still_copied, roots_copied, all_roots}
use Rattle.formula_store.proofs.Marked.{all_on}
use Rattle.formula_store.proofs.Tables.{filled}
use Rattle.formula_store.proofs.keep.copied.Goals as goal

order : (c : goal.After-copied_node-arg-in-loop-id-1) → IsOrder c.args.store.now c.args.roots.now c.deref-id-items.result.now
order c = subst (λ (ids : List FormulaId). IsOrder c.args.store.now c.args.roots.now ids) (sym c.deref-id-items.ensures.value) c.in_ok-ids.ensures

pub copied_node-requires-clause-id : goal.copied_node-requires-clause-id
copied_node-requires-clause-id c =
    each_id c.args.store.now c.len.ensures.nodes c.args.roots.now c.deref-id-items.result.now (order c) c.requires c.loop-id.id-index (record { number = 0 }) c.loop-id-test.true

pub copied_node-requires-clause-members : goal.copied_node-requires-clause-members
copied_node-requires-clause-members c n here =
    let P : FormulaId → Type 0 = λ id. Copied c.args.store.now c.loop-id.into id (get_or c.loop-id.table.items id.number first_id) in
    listed_all P n
    (members_before c.args.store.now c.len.ensures.nodes c.args.roots.now c.deref-id-items.result.now (order c) c.loop-id.id-index (record { number = 0 }) c.loop-id-test.true n here P c.loop-id.invariant.0)

within : (c : goal.After-table-in-loop-id-2-1) → (get_or c.deref-id-items.result.now c.loop-id.id-index (record { number = 0 })).number < length c.args.store.now
within c = (each_id c.args.store.now c.len.ensures.nodes c.args.roots.now c.deref-id-items.result.now
    (subst (λ (ids : List FormulaId). IsOrder c.args.store.now c.args.roots.now ids) (sym c.deref-id-items.ensures.value) c.in_ok-ids.ensures) c.requires c.loop-id.id-index (record { number = 0 }) c.loop-id-test.true).below

pub index_mut-requires : goal.index_mut-requires
index_mut-requires c =
    let size : vec_len c.loop-id.table ≡ length c.loop-id.table.items = search rules in
    let h = within c in
    omega (arith, c.loop-id.invariant.1)

pub ids-requires : goal.ids-requires
ids-requires c =
    let size : length c.deref.result.now ≡ length c.args.store.now = ap length c.deref.ensures.value ∙ c.loop-id.invariant.1 in
    all_on (IsId c.args.store.now) (λ (id : FormulaId). id.number < 0 + length c.deref.result.now) (λ id h. omega arith) c.args.roots.now c.requires

pub loop-id-preserved : goal.loop-id-preserved
loop-id-preserved c =
    let ids : List FormulaId = c.deref-id-items.result.now in
    let o : IsOrder c.args.store.now c.args.roots.now ids = subst (λ (l : List FormulaId). IsOrder c.args.store.now c.args.roots.now l) (sym c.deref-id-items.ensures.value) c.in_ok-ids.ensures in
    let in_store : (get_or ids c.loop-id.id-index (record { number = 0 })).number < length c.args.store.now =
    (each_id c.args.store.now c.len.ensures.nodes c.args.roots.now ids o c.requires c.loop-id.id-index (record { number = 0 }) c.loop-id-test.true).below in (
      filled (λ id copy. Copied c.args.store.now c.loop-id.into id copy) (λ id copy. Copied c.args.store.now c.copied_node.new.into id copy) c.loop-id.table.items first_id ids c.loop-id.id-index (record { number = 0 })
          c.in_ok-copy.copy o.rises c.loop-id-test.true (omega (arith, c.loop-id.invariant.1)) (λ x w h. still_copied c.args.store.now c.loop-id.into c.copied_node.new.into c.in_ok-copy.ensures.kept x w h)
          c.in_ok-copy.ensures.copied c.loop-id.invariant.0,
      length-set c.loop-id.table.items (get_or ids c.loop-id.id-index (record { number = 0 })).number c.in_ok-copy.copy ∙ c.loop-id.invariant.1,
      (let few = c.in_ok-copy.ensures.few in let before = c.loop-id.invariant.2 in omega arith),
    )

pub returns-clause-made : goal.returns-clause-made
returns-clause-made c =
    IfOk-weaker c.ids.result (λ copies. copies.items ≡ map (ported 0 c.deref.result.now) c.args.roots.now) (λ copies. AreMade (IsId c.loop-id.into) (tree c.loop-id.into) copies.items (map (tree c.args.store.now) c.args.roots.now)) (λ copies e.
    let ids : List FormulaId = c.deref-id-items.result.now in
    let o : IsOrder c.args.store.now c.args.roots.now ids = subst (λ (l : List FormulaId). IsOrder c.args.store.now c.args.roots.now l) (sym c.deref-id-items.ensures.value) c.in_ok-ids.ensures in
    let P : FormulaId → Type 0 = λ id. Copied c.args.store.now c.loop-id.into id (get_or c.loop-id.table.items id.number first_id) in
    let whole : take c.loop-id.id-index ids ≡ ids = take_all c.loop-id.id-index ids (omega arith) in
    let done : AllByRecursion P ids = subst (λ (l : List FormulaId). AllByRecursion P l) whole c.loop-id.invariant.0 in
    subst (λ (l : List FormulaId). AreMade (IsId c.loop-id.into) (tree c.loop-id.into) l (map (tree c.args.store.now) c.args.roots.now)) (sym (e ∙ ap (λ (l : List FormulaId). map (ported 0 l) c.args.roots.now) c.deref.ensures.value))
    (roots_copied c.args.store.now c.loop-id.into c.loop-id.table.items c.args.roots.now (all_roots c.args.store.now c.loop-id.into c.loop-id.table.items c.args.roots.now ids c.args.roots.now (λ r m. m) o P done))) c.ids.ensures

pub returns-clause-few : goal.returns-clause-few
returns-clause-few c = on_ok c.ids.result (λ needed n.
    let ids : List FormulaId = c.deref-id-items.result.now in
    let o : IsOrder c.args.store.now c.args.roots.now ids = subst (λ (l : List FormulaId). IsOrder c.args.store.now c.args.roots.now l) (sym c.deref-id-items.ensures.value) c.in_ok-ids.ensures in
    let l : length ids ≤ length needed = orders_alike c.args.store.now c.args.roots.now ids needed o n in
    let k = c.loop-id.invariant.2 in
    let i : c.loop-id.id-index ≤ length ids = search rules in
    omega arith)
