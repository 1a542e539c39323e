use Rattle.std.proofs.Common.{◌∙◌}
use Rattle.formula_store.specs.Nodes.{tree}
use Rattle.formula_store.proofs.Makes.{keeps_then}
use Rattle.logic_meaning.specs.Cases.{case_matrix}
use Rattle.branch_rounds.specs.declared.work.Work.{Work}
use Rattle.engine_answers.proofs.Beginning.{theory_work, begun_outside, begun_once, begun_condition}
use Rattle.engine_answers.proofs.task.Task.condition.Goals as goal

pub narrowed-requires-clause-block : goal.narrowed-requires-clause-block
narrowed-requires-clause-block g c =
    let t = c.args.self.now in
    let w : Work = c.work-work.result in
    let wo = c.work-work.ensures in
    let u : Work = c.work-under.result in
    let un = c.work-under.ensures in
    let f = c.requires.begun.0 in
    let b = c.args.begun.now in
    let nodes = c.args.store.now in
    record {
      work = theory_work t c.requires.task w wo.context wo.workers wo.assumed;
      under = begun_outside t c.requires.task w wo.context wo.workers wo.assumed f nodes b c.requires.begun.1 u un.context un.workers (un.assumed ∙ c.deref.ensures.value) c.deref-2.result.now c.deref-2.ensures.value;
      once = begun_once t c.requires.task w wo.context wo.workers wo.assumed f nodes b c.requires.begun.1 u un.context un.workers (un.assumed ∙ c.deref.ensures.value) c.deref-2.result.now c.deref-2.ensures.value;
    }

pub short_over-requires-clause-block : goal.short_over-requires-clause-block
short_over-requires-clause-block g c κs within =
    let t = c.args.self.now in
    let w : Work = c.work-work.result in
    let wo = c.work-work.ensures in
    let u : Work = c.work-under.result in
    let un = c.work-under.ensures in
    let f = c.requires.begun.0 in
    let b = c.args.begun.now in
    let nodes = c.args.store.now in
    record {
      work = theory_work t c.requires.task w wo.context wo.workers wo.assumed;
      under = begun_outside t c.requires.task w wo.context wo.workers wo.assumed f nodes b c.requires.begun.1 u un.context un.workers (un.assumed ∙ c.deref.ensures.value) c.deref-2.result.now c.deref-2.ensures.value;
      once = begun_once t c.requires.task w wo.context wo.workers wo.assumed f nodes b c.requires.begun.1 u un.context un.workers (un.assumed ∙ c.deref.ensures.value) c.deref-2.result.now c.deref-2.ensures.value;
    }

pub returns-in-Err-clause-kept : goal.returns-in-Err-clause-kept
returns-in-Err-clause-kept g c = keeps_then c.args.store.now c.narrowed.new.store c.short_over.new.store c.narrowed.ensures.kept c.short_over.ensures.kept

pub returns-in_err-condition-clause-kept : goal.returns-in_err-condition-clause-kept
returns-in_err-condition-clause-kept g c =
    keeps_then c.args.store.now c.short_over.new.store c.asked.new.store (keeps_then c.args.store.now c.narrowed.new.store c.short_over.new.store c.narrowed.ensures.kept c.short_over.ensures.kept) c.asked.ensures.kept

pub returns-clause-kept : goal.returns-clause-kept
returns-clause-kept g c =
    keeps_then c.args.store.now c.short_over.new.store c.asked.new.store (keeps_then c.args.store.now c.narrowed.new.store c.short_over.new.store c.narrowed.ensures.kept c.short_over.ensures.kept) c.asked.ensures.kept

pub returns-clause-condition : goal.returns-clause-condition
returns-clause-condition g c f h =
    let t = c.args.self.now in
    let w : Work = c.work-work.result in
    let wo = c.work-work.ensures in
    let u : Work = c.work-under.result in
    let un = c.work-under.ensures in
    let b = c.args.begun.now in
    let nodes = c.args.store.now in
    begun_condition t c.requires.task w wo.context wo.workers wo.assumed f nodes b h u un.context un.workers (un.assumed ∙ c.deref.ensures.value) c.deref-2.result.now c.deref-2.ensures.value c.short_over.new.store c.in-Ok.short c.in_ok-condition.condition
    (λ m. c.in-Ok.ensures.short (case_matrix f) (tree nodes b.matrix) c.in_ok-left.ensures.left.narrowed m) c.asked.new.store c.in_ok-condition.ensures.made
