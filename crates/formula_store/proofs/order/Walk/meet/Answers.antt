use Rattle.std.proofs.Common.{◌+◌, ◌∙◌, sym, ap, subst, get_or, take}
use Rattle.formula_store.specs.declared.id.FormulaId.{FormulaId}
use Rattle.formula_store.specs.declared.order.Walk.{Walk}
use Rattle.formula_store.specs.Order.{Meets, waits}
use Rattle.formula_store.proofs.Added.{meets_next, meets_added, meets_leaf, nothing_inside}
use Rattle.formula_store.proofs.order.Walk.meet.Goals as goal
use Rattle.formula_store.proofs.order.Walk.meet.Goals.{then-has_members+in_ok-add, else-has_members}

pub loop-id-preserved : goal.loop-id-preserved
loop-id-preserved c =
    let nodes = c.args.store.now in
    let ids = c.args.ids.now in
    let i = c.loop-id.id-index in
    let id : FormulaId = get_or ids i (record { number = 0 }) in
    let old = waits c.args.self.now.waiting in
    let has = waits c.loop-id.self.waiting in
    elim c.if-has_members.branch [
      | then-has_members+in_ok-add w ↦ record {
        met = ap (λ (s : Walk). s.met.items) w.self-is ∙ c.loop-id.invariant.met;
        waiting = subst (λ (s : Walk). Meets nodes (take (i + 1) ids) old (waits s.waiting)) (sym w.self-is)
            (meets_next nodes ids i (record { number = 0 }) old has (waits w.add.new.waiting) c.loop-id-test.true c.loop-id.invariant.waiting (meets_added nodes id has (waits w.add.new.waiting) w.in_ok-add.ensures));
      }
      | else-has_members w ↦ record {
        met = ap (λ (s : Walk). s.met.items) w.self-is ∙ c.loop-id.invariant.met;
        waiting = subst (λ (s : Walk). Meets nodes (take (i + 1) ids) old (waits s.waiting)) (sym w.self-is)
            (meets_next nodes ids i (record { number = 0 }) old has has c.loop-id-test.true c.loop-id.invariant.waiting
            (meets_leaf nodes id has (nothing_inside nodes id c.shape.result.now c.shape.ensures.node (sym c.has_members.ensures ∙ w.if-has_members.false))));
      }
    ]
