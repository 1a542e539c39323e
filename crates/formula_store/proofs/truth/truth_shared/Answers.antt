use Rattle.std.proofs.Common.{rules, ◌≡◌, ◌<◌, ◌≤◌, false, List, [], ◌∷◌, inl, inr, take, length, get_or, subst, sym, ap, ◌∙◌, arith, length-set, vec_len}
use Rattle.std.proofs.lemmas.List.{take_all}
use Rattle.std.specs.List.{AllByRecursion}
use Rattle.formula_tree.specs.declared.shape.Shape.{Shape}
use Rattle.formula_tree.proofs.Shapes.{listed_all}
use Rattle.formula_tree.specs.FromLinearForms.{point_of}
use Rattle.formula_store.specs.declared.id.FormulaId.{FormulaId}
use Rattle.formula_store.specs.Nodes.{tree}
use Rattle.formula_store.specs.Order.{IsOrder, Within, WithinSome, itself}
use Rattle.formula_store.specs.Truths.{Tells}
use Rattle.formula_store.proofs.Before.{each_id, members_before, among_all}
use Rattle.formula_store.proofs.Counted.{counted}
use Rattle.formula_store.proofs.Inner.{free_within, whole_within, passes_within}
use Rattle.formula_store.proofs.Marked.{all_at}
use Rattle.formula_store.proofs.Tables.{filled}
use Rattle.formula_store.proofs.truth.truth_shared.Goals as goal

only_root : (nodes : List (Shape FormulaId)) (root x : FormulaId) → WithinSome nodes (root ∷ []) x → Within nodes root x
only_root nodes root x (inl w) = w
only_root nodes root x (inr w) = absurd w

pub node_truth-requires-clause-id : goal.node_truth-requires-clause-id
node_truth-requires-clause-id g c =
    let o = subst (λ (ids : List FormulaId). IsOrder c.args.store.now (c.args.root ∷ []) ids) (sym c.deref-id-items.ensures.value) c.in_ok-ids.ensures in
    each_id c.args.store.now c.len.ensures.nodes (c.args.root ∷ []) c.deref-id-items.result.now o (c.requires.id, tt) c.loop-id.id-index (record { number = 0 }) c.loop-id-test.true

pub node_truth-requires-clause-free : goal.node_truth-requires-clause-free
node_truth-requires-clause-free g c =
    let o = subst (λ (ids : List FormulaId). IsOrder c.args.store.now (c.args.root ∷ []) ids) (sym c.deref-id-items.ensures.value) c.in_ok-ids.ensures in
    let x = get_or c.deref-id-items.result.now c.loop-id.id-index (record { number = 0 }) in
    let w = only_root c.args.store.now c.args.root x (all_at (WithinSome c.args.store.now (c.args.root ∷ [])) c.deref-id-items.result.now c.loop-id.id-index (record { number = 0 }) c.loop-id-test.true o.only) in
    free_within c.args.store.now c.len.ensures.nodes c.args.root x w c.requires.free

pub node_truth-requires-clause-whole : goal.node_truth-requires-clause-whole
node_truth-requires-clause-whole g c =
    let o = subst (λ (ids : List FormulaId). IsOrder c.args.store.now (c.args.root ∷ []) ids) (sym c.deref-id-items.ensures.value) c.in_ok-ids.ensures in
    let x = get_or c.deref-id-items.result.now c.loop-id.id-index (record { number = 0 }) in
    let w = only_root c.args.store.now c.args.root x (all_at (WithinSome c.args.store.now (c.args.root ∷ [])) c.deref-id-items.result.now c.loop-id.id-index (record { number = 0 }) c.loop-id-test.true o.only) in
    whole_within c.args.store.now c.len.ensures.nodes c.args.root x c.args.at.now.denominator w c.requires.whole

pub node_truth-requires-clause-members : goal.node_truth-requires-clause-members
node_truth-requires-clause-members g c n here =
    let o = subst (λ (ids : List FormulaId). IsOrder c.args.store.now (c.args.root ∷ []) ids) (sym c.deref-id-items.ensures.value) c.in_ok-ids.ensures in
    let P : FormulaId → Type 0 = λ id. Tells (get_or c.loop-id.table.items id.number false) (tree c.args.store.now id) (point_of c.args.at.now) in
    listed_all P n (members_before c.args.store.now c.len.ensures.nodes (c.args.root ∷ []) c.deref-id-items.result.now o c.loop-id.id-index (record { number = 0 }) c.loop-id-test.true n here P c.loop-id.invariant.0)

pub index_mut-requires : goal.index_mut-requires
index_mut-requires g c =
    let o = subst (λ (ids : List FormulaId). IsOrder c.args.store.now (c.args.root ∷ []) ids) (sym c.deref-id-items.ensures.value) c.in_ok-ids.ensures in
    let size : vec_len c.loop-id.table ≡ length c.loop-id.table.items = search rules in
    let within : (get_or c.deref-id-items.result.now c.loop-id.id-index (record { number = 0 })).number < length c.args.store.now =
    (each_id c.args.store.now c.len.ensures.nodes (c.args.root ∷ []) c.deref-id-items.result.now o (c.requires.id, tt) c.loop-id.id-index (record { number = 0 }) c.loop-id-test.true).below in
    omega (arith, c.loop-id.invariant.1)

pub loop-id-preserved : goal.loop-id-preserved
loop-id-preserved g c =
    let ids : List FormulaId = c.deref-id-items.result.now in
    let o : IsOrder c.args.store.now (c.args.root ∷ []) ids = subst (λ (l : List FormulaId). IsOrder c.args.store.now (c.args.root ∷ []) l) (sym c.deref-id-items.ensures.value) c.in_ok-ids.ensures in
    let in_store : (get_or ids c.loop-id.id-index (record { number = 0 })).number < length c.args.store.now =
    (each_id c.args.store.now c.len.ensures.nodes (c.args.root ∷ []) ids o (c.requires.id, tt) c.loop-id.id-index (record { number = 0 }) c.loop-id-test.true).below in (
      filled (λ id b. Tells b (tree c.args.store.now id) (point_of c.args.at.now)) (λ id b. Tells b (tree c.args.store.now id) (point_of c.args.at.now)) c.loop-id.table.items false ids c.loop-id.id-index (record { number = 0 })
          c.in-Some.truth o.rises c.loop-id-test.true (omega (arith, c.loop-id.invariant.1)) (λ x w h. h) c.in-Some.ensures c.loop-id.invariant.0,
      length-set c.loop-id.table.items (get_or ids c.loop-id.id-index (record { number = 0 })).number c.in-Some.truth ∙ c.loop-id.invariant.1,
      (let tick = c.tick.ensures in let before = c.loop-id.invariant.2 in omega arith),
    )

pub returns-in_default-clause-steps : goal.returns-in_default-clause-steps
returns-in_default-clause-steps g c =
    let count = counted c.args.store.now c.len.ensures.nodes c.args.root c.in_ok-ids.ids.items c.requires.id c.in_ok-ids.ensures in
    let same : length c.deref-id-items.result.now ≡ length c.in_ok-ids.ids.items = ap length c.deref-id-items.ensures.value in
    let tick = c.tick.ensures in
    let before = c.loop-id.invariant.2 in
    let more = c.loop-id-test.true in
    omega arith

pub returns-in_default-clause-overflow : goal.returns-in_default-clause-overflow
returns-in_default-clause-overflow g c h =
    let o = subst (λ (ids : List FormulaId). IsOrder c.args.store.now (c.args.root ∷ []) ids) (sym c.deref-id-items.ensures.value) c.in_ok-ids.ensures in
    let x = get_or c.deref-id-items.result.now c.loop-id.id-index (record { number = 0 }) in
    let w = only_root c.args.store.now c.args.root x (all_at (WithinSome c.args.store.now (c.args.root ∷ [])) c.deref-id-items.result.now c.loop-id.id-index (record { number = 0 }) c.loop-id-test.true o.only) in
    passes_within c.args.store.now c.len.ensures.nodes c.args.root x c.args.at.now w c.in_default.ensures

pub returns-clause-steps : goal.returns-clause-steps
returns-clause-steps g c =
    let count = counted c.args.store.now c.len.ensures.nodes c.args.root c.in_ok-ids.ids.items c.requires.id c.in_ok-ids.ensures in
    let same : length c.deref-id-items.result.now ≡ length c.in_ok-ids.ids.items = ap length c.deref-id-items.ensures.value in
    let before = c.loop-id.invariant.2 in
    let i : c.loop-id.id-index ≤ length c.deref-id-items.result.now = search rules in
    omega arith

pub returns-clause-truth : goal.returns-clause-truth
returns-clause-truth g c =
    let ids : List FormulaId = c.deref-id-items.result.now in
    let o : IsOrder c.args.store.now (c.args.root ∷ []) ids = subst (λ (l : List FormulaId). IsOrder c.args.store.now (c.args.root ∷ []) l) (sym c.deref-id-items.ensures.value) c.in_ok-ids.ensures in
    let P : FormulaId → Type 0 = λ id. Tells (get_or c.loop-id.table.items id.number false) (tree c.args.store.now id) (point_of c.args.at.now) in
    let whole : take c.loop-id.id-index ids ≡ ids = take_all c.loop-id.id-index ids (omega arith) in
    let done : AllByRecursion P ids = subst (λ (l : List FormulaId). AllByRecursion P l) whole c.loop-id.invariant.0 in
    rw c.mark.ensures (among_all P ids c.args.root done (o.all c.args.root (inl itself)))
