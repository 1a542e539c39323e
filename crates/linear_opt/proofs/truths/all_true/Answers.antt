use Rattle.std.proofs.Common.{sym, ◌∙◌}
use Rattle.formula_store.proofs.Marked.{all_at}
use Rattle.linear_opt.specs.Truths.{IsThere, truth_in}
use Rattle.linear_opt.proofs.Members.{not_all, all_more}
use Rattle.linear_opt.proofs.truths.all_true.Goals as goal

pub truth_in-requires : goal.truth_in-requires
truth_in-requires c = all_at (IsThere c.args.table.now) c.args.ids.now c.loop-id.id-index (record { number = 0 }) c.loop-id-test.true c.requires

pub returns-then-not-truth_in : goal.returns-then-not-truth_in
returns-then-not-truth_in c = not_all (truth_in c.args.table.now) c.args.ids.now c.loop-id.id-index (record { number = 0 }) c.loop-id-test.true (sym c.truth_in.ensures ∙ c.if-not-truth_in.true)

pub loop-id-preserved : goal.loop-id-preserved
loop-id-preserved c = all_more (truth_in c.args.table.now) c.args.ids.now c.loop-id.id-index (record { number = 0 }) c.loop-id-test.true c.loop-id.invariant (sym c.truth_in.ensures ∙ c.if-not-truth_in.false)
