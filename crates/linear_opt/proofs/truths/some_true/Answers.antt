use Rattle.std.proofs.Common.{sym, ◌∙◌}
use Rattle.formula_store.proofs.Marked.{all_at}
use Rattle.linear_opt.specs.Truths.{IsThere, truth_in}
use Rattle.linear_opt.proofs.Members.{some_here, none_more}
use Rattle.linear_opt.proofs.truths.some_true.Goals as goal

pub truth_in-requires : goal.truth_in-requires
truth_in-requires c = all_at (IsThere c.args.table.now) c.args.ids.now c.loop-id.id-index (record { number = 0 }) c.loop-id-test.true c.requires

pub returns-then-truth_in : goal.returns-then-truth_in
returns-then-truth_in c = some_here (truth_in c.args.table.now) c.args.ids.now c.loop-id.id-index (record { number = 0 }) c.loop-id-test.true (sym c.truth_in.ensures ∙ c.if-truth_in.true)

pub loop-id-preserved : goal.loop-id-preserved
loop-id-preserved c = none_more (truth_in c.args.table.now) c.args.ids.now c.loop-id.id-index (record { number = 0 }) c.loop-id-test.true c.loop-id.invariant (sym c.truth_in.ensures ∙ c.if-truth_in.false)
