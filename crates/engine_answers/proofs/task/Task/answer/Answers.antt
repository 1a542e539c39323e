use Rattle.std.proofs.Common.{◌+◌, ◌*◌}
use Rattle.normal_atoms.proofs.Stepped.{ok_map}
use Rattle.formula_store.specs.Nodes.{tree}
use Rattle.formula_store.proofs.Makes.{keeps_then}
use Rattle.engine_answers.proofs.Beginning.{begun_direct, begun_kept, not_otherwise}
use Rattle.engine_answers.proofs.task.Task.answer.Goals as goal

-- ---- by the root

pub cases_found-requires-clause-begun : goal.cases_found-requires-clause-begun
cases_found-requires-clause-begun g c κs within = (tree c.args.store.now c.args.id, c.in-Ok.ensures.begun)

pub returns-then-is_by_root-clause-found : goal.returns-then-is_by_root-clause-found
returns-then-is_by_root-clause-found g c = ok_map c.cases_found.result (λ a h. h (tree c.args.store.now c.args.id) c.in-Ok.ensures.begun) c.cases_found.ensures.found

pub returns-then-is_by_root-clause-direct : goal.returns-then-is_by_root-clause-direct
returns-then-is_by_root-clause-direct g c x fs s e d = c.cases_found.ensures.direct (tree c.args.store.now c.args.id) x fs s c.in-Ok.ensures.begun c.in-Ok.ensures.unpaid e d

pub returns-then-is_by_root-clause-kept : goal.returns-then-is_by_root-clause-kept
returns-then-is_by_root-clause-kept g c = keeps_then c.args.store.now c.begun.new.store c.cases_found.new.store c.begun.ensures.kept c.cases_found.ensures.kept

-- ---- by a condition, if there is one

pub returns-in-Ok-Some-clause-direct : goal.returns-in-Ok-Some-clause-direct
returns-in-Ok-Some-clause-direct g c x fs s e d =
    let t = c.args.self.now in
    let at = begun_direct t (tree c.args.store.now c.args.id) c.begun.new.store c.in-Ok.begun c.in-Ok.ensures.begun c.in-Ok.ensures.unpaid x fs s e d in
    not_otherwise c.is_by_root.result (c.is_by_root.ensures (2 * t.limits.nodes + 8) at.0 s e at.1) c.if-is_by_root.false

pub returns-in-Ok-Some-clause-kept : goal.returns-in-Ok-Some-clause-kept
returns-in-Ok-Some-clause-kept g c = keeps_then c.args.store.now c.begun.new.store c.condition.new.store c.begun.ensures.kept c.condition.ensures.kept

pub returns-in-Err-condition-clause-direct : goal.returns-in-Err-condition-clause-direct
returns-in-Err-condition-clause-direct g c x fs s e d =
    let t = c.args.self.now in
    let at = begun_direct t (tree c.args.store.now c.args.id) c.begun.new.store c.in-Ok.begun c.in-Ok.ensures.begun c.in-Ok.ensures.unpaid x fs s e d in
    absurd (not_otherwise c.is_by_root.result (c.is_by_root.ensures (2 * t.limits.nodes + 8) at.0 s e at.1) c.if-is_by_root.false)

pub returns-in-Err-condition-clause-kept : goal.returns-in-Err-condition-clause-kept
returns-in-Err-condition-clause-kept g c = keeps_then c.args.store.now c.begun.new.store c.condition.new.store c.begun.ensures.kept c.condition.ensures.kept

-- ---- or else by cases

pub cases_found-requires-in-Ok-None-clause-begun : goal.cases_found-requires-in-Ok-None-clause-begun
cases_found-requires-in-Ok-None-clause-begun g c κs within =
    let o = c.condition.ensures in (
      tree c.args.store.now c.args.id,
      begun_kept c.begun.new.store c.condition.new.store o.kept c.args.self.now (tree c.args.store.now c.args.id) c.in-Ok.begun c.condition.new.begun o.block o.assumed o.matrix c.in-Ok.ensures.begun,
    )

pub returns-in-Ok-None-clause-found : goal.returns-in-Ok-None-clause-found
returns-in-Ok-None-clause-found g c =
    let o = c.condition.ensures in
    let f = tree c.args.store.now c.args.id in
    let begun = begun_kept c.begun.new.store c.condition.new.store o.kept c.args.self.now f c.in-Ok.begun c.condition.new.begun o.block o.assumed o.matrix c.in-Ok.ensures.begun in
    ok_map c.cases_found-in-Ok-None.result (λ a h. h f begun) c.cases_found-in-Ok-None.ensures.found

pub returns-in-Ok-None-clause-direct : goal.returns-in-Ok-None-clause-direct
returns-in-Ok-None-clause-direct g c x fs s e d =
    let t = c.args.self.now in
    let at = begun_direct t (tree c.args.store.now c.args.id) c.begun.new.store c.in-Ok.begun c.in-Ok.ensures.begun c.in-Ok.ensures.unpaid x fs s e d in
    absurd (not_otherwise c.is_by_root.result (c.is_by_root.ensures (2 * t.limits.nodes + 8) at.0 s e at.1) c.if-is_by_root.false)

pub returns-in-Ok-None-clause-kept : goal.returns-in-Ok-None-clause-kept
returns-in-Ok-None-clause-kept g c =
    keeps_then c.args.store.now c.condition.new.store c.cases_found-in-Ok-None.new.store (keeps_then c.args.store.now c.begun.new.store c.condition.new.store c.begun.ensures.kept c.condition.ensures.kept) c.cases_found-in-Ok-None.ensures.kept
