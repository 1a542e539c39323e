use Rattle.redlog_run.proofs.Claims.{claim_under, claim_memory}
use Rattle.redlog_run.proofs.program.run_told.Goals as goal

pub returns-in-Ok : goal.returns-in-Ok
returns-in-Ok g c = claim_under c.args.words.now c.in-Ok.options _ _ c.answer_under.result c.in-Ok.ensures.spelled c.answer_under.ensures

pub returns-in-Err : goal.returns-in-Err
returns-in-Err g c = claim_memory c.args.words.now _ (c.are_valid.ensures.0 c.if-not-are_valid.false)
