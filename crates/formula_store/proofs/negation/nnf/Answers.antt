use Rattle.logic_meaning.specs.Same.{same_atom}
use Rattle.logic_meaning.specs.Sizes.{distinct_count}
use Rattle.std.proofs.Common.{◌<◌, rules, ◌≡◌, List, [], ◌∷◌, get_or, false, ℕ, nat_eq, ◌*◌, ◌≤◌, true≢false, inl, Some, ap, sym, ◌∙◌, subst, refl, arith, take}
use Rattle.std.proofs.lemmas.List.{take_all}
use Rattle.std.specs.List.{AllByRecursion}
use Rattle.formula_tree.proofs.Shapes.{listed_all}
use Rattle.formula_store.specs.declared.id.FormulaId.{FormulaId}
use Rattle.formula_store.specs.Nodes.{tree, IsId}
use Rattle.formula_store.specs.Order.{IsOrder, itself}
use Rattle.formula_store.proofs.Before.{each_id, members_before, among_all}
use Rattle.std.specs.HashMap.{Updates}
use Rattle.formula_store.specs.Forms.{form, same_id, Known}
use Rattle.formula_store.proofs.Makes.{keeps_then}
use Rattle.formula_store.proofs.Kept.{front_then, front_back, known_more}
use Rattle.formula_laws.proofs.NormalAgain.{normal_form_itself}
use Rattle.logic_meaning.specs.NormalForm.{negated_normal}
use Rattle.formula_store.proofs.Normal.{ids_are, is_normal}
use Rattle.formula_store.proofs.negation.nnf.Goals as goal

order : (c : goal.After-table-in-loop-id-1) → IsOrder c.args.store.now (c.args.id ∷ []) c.deref-id-items.result.now
order c = subst (λ (ids : List FormulaId). IsOrder c.args.store.now (c.args.id ∷ []) ids) (sym c.deref-id-items.ensures.value) c.in_ok-ids.ensures.order

old_id : (c : goal.After-table-in-loop-id-1) → IsId c.args.store.now (get_or c.deref-id-items.result.now c.loop-id.id-index (record { number = 0 }))
old_id c = each_id c.args.store.now c.subformulas.ensures.nodes (c.args.id ∷ []) c.deref-id-items.result.now (order c) (c.requires, tt) c.loop-id.id-index (record { number = 0 }) c.loop-id-test.true

pub node_forms-requires-clause-id : goal.node_forms-requires-clause-id
node_forms-requires-clause-id c = c.loop-id.invariant.kept.is (get_or c.deref-id-items.result.now c.loop-id.id-index (record { number = 0 })) (old_id c)

pub node_forms-requires-clause-members : goal.node_forms-requires-clause-members
node_forms-requires-clause-members c n here =
    let P : FormulaId → Type 0 = Known c.loop-id.store c.loop-id.table in
    listed_all P n
    (members_before c.args.store.now c.subformulas.ensures.nodes (c.args.id ∷ []) c.deref-id-items.result.now (order c) c.loop-id.id-index (record { number = 0 }) c.loop-id-test.true n
    (front_back c.args.store.now c.loop-id.store c.loop-id.invariant.front _ n (old_id c).below here) P c.loop-id.invariant.known)

pub returns-in_err-forms-clause-kept : goal.returns-in_err-forms-clause-kept
returns-in_err-forms-clause-kept c = keeps_then c.args.store.now c.loop-id.store c.node_forms.new.store c.loop-id.invariant.kept c.node_forms.ensures.kept

pub returns-in_err-map_err-clause-kept : goal.returns-in_err-map_err-clause-kept
returns-in_err-map_err-clause-kept c = keeps_then c.args.store.now c.loop-id.store c.node_forms.new.store c.loop-id.invariant.kept c.node_forms.ensures.kept

pub loop-id-preserved : goal.loop-id-preserved
loop-id-preserved c =
    let ids : List FormulaId = c.deref-id-items.result.now in
    let id : FormulaId = get_or ids c.loop-id.id-index (record { number = 0 }) in
    let order = subst (λ (l : List FormulaId). IsOrder c.args.store.now (c.args.id ∷ []) l) (sym c.deref-id-items.ensures.value) c.in_ok-ids.ensures.order in
    let old = each_id c.args.store.now c.subformulas.ensures.nodes (c.args.id ∷ []) ids order (c.requires, tt) c.loop-id.id-index (record { number = 0 }) c.loop-id-test.true in
    let put : Updates same_id c.loop-id.table c.insert.new.self id (Some c.in_ok-forms.forms) = search rules in
    record {
      known = known_more c.loop-id.store c.node_forms.new.store c.node_forms.ensures.kept c.loop-id.table c.insert.new.self id c.in_ok-forms.forms put.0 (c.loop-id.invariant.kept.is id old)
          c.in_ok-forms.ensures.plain c.in_ok-forms.ensures.negated ids c.loop-id.id-index (record { number = 0 }) c.loop-id-test.true refl c.loop-id.invariant.known;
      kept = keeps_then c.args.store.now c.loop-id.store c.node_forms.new.store c.loop-id.invariant.kept c.node_forms.ensures.kept;
      front = front_then c.args.store.now c.loop-id.store c.node_forms.new.store c.loop-id.invariant.front c.node_forms.ensures.front;
      few = (let few = c.node_forms.ensures.few in let before = c.loop-id.invariant.few in omega arith);
    }

root_known : (c : goal.After-table-2-1) → Known c.loop-id.store c.loop-id.table c.args.id
root_known c =
    let ids : List FormulaId = c.deref-id-items.result.now in
    let o = subst (λ (l : List FormulaId). IsOrder c.args.store.now (c.args.id ∷ []) l) (sym c.deref-id-items.ensures.value) c.in_ok-ids.ensures.order in
    let whole : take c.loop-id.id-index ids ≡ ids = take_all c.loop-id.id-index ids (omega arith) in
    among_all (Known c.loop-id.store c.loop-id.table) ids c.args.id (subst (λ (l : List FormulaId). AllByRecursion (Known c.loop-id.store c.loop-id.table) l) whole c.loop-id.invariant.known) (o.all c.args.id (inl itself))

pub form-requires : goal.form-requires
form-requires c = (root_known c).there

pub returns-clause-made : goal.returns-clause-made
returns-clause-made c =
    let ids : List FormulaId = c.deref-id-items.result.now in
    let o = subst (λ (l : List FormulaId). IsOrder c.args.store.now (c.args.id ∷ []) l) (sym c.deref-id-items.ensures.value) c.in_ok-ids.ensures.order in
    let whole : take c.loop-id.id-index ids ≡ ids = take_all c.loop-id.id-index ids (omega arith) in
    let known = among_all (Known c.loop-id.store c.loop-id.table) ids c.args.id (subst (λ (l : List FormulaId). AllByRecursion (Known c.loop-id.store c.loop-id.table) l) whole c.loop-id.invariant.known) (o.all c.args.id (inl itself)) in
    record { is = rw c.form.ensures (known.made false).is; same = rw c.form.ensures (known.made false).same ∙ ap (form false) (c.loop-id.invariant.kept.same c.args.id c.requires) }

-- a limit that was not passed is at least the count
not_above : (l n : ℕ) → ¬ (l < n) → n ≤ l
not_above l n h = omega (arith, h)

pub returns-clause-limited : goal.returns-clause-limited
returns-clause-limited c l e =
    let distinct : ℕ = distinct_count same_atom nat_eq (tree c.args.store.now c.args.id) in
    let count : c.len.result ≡ distinct = search rules in
    not_above l (6 * distinct) (λ h. true≢false (sym (c.passes.ensures.1 (l, e, omega (arith, count, h))) ∙ c.if-passes.false))

pub are_normal-requires : goal.are_normal-requires
are_normal-requires c =
    subst (AllByRecursion (IsId c.args.store.now)) (sym c.deref.ensures.value)
    (ids_are c.args.store.now c.subformulas.ensures.nodes c.args.id c.requires c.in_ok-ids.ids.items c.in_ok-ids.ensures.order.only)

pub returns-then-are_normal-clause-made : goal.returns-then-are_normal-clause-made
returns-then-are_normal-clause-made c =
    let nodes = c.args.store.now in
    let ids : List FormulaId = c.deref.result.now in
    let order = subst (λ (l : List FormulaId). IsOrder nodes (c.args.id ∷ []) l) (sym c.deref.ensures.value) c.in_ok-ids.ensures.order in
    let normal = is_normal nodes c.subformulas.ensures.nodes c.args.id c.requires ids order (c.are_normal.ensures c.if-are_normal.true) in
    record { is = c.requires; same = sym (normal_form_itself negated_normal (tree nodes c.args.id) normal) }
