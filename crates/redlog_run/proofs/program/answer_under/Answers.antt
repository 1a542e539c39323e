use Rattle.redlog_run.proofs.Claims.{under_source, under_generated, under_smt}
use Rattle.redlog_run.proofs.program.answer_under.Goals as goal

pub returns-in-SmtLib : goal.returns-in-SmtLib
returns-in-SmtLib g c = under_smt c.args.options c.limits_of-limits.result.nodes _ _ c.answer_smt_source.result c.limits_of-limits.ensures.nodes c.in-SmtLib.is c.answer_smt_source.ensures

pub returns-in-Some : goal.returns-in-Some
returns-in-Some g c = under_generated c.args.options _ _ _ _ _ _ c.limits_of-limits.result.nodes c.in-Some.count c.answer_generated.result c.limits_of-limits.ensures.nodes c.in-Redlog.is c.in-Some.is c.answer_generated.ensures

pub returns-in-None : goal.returns-in-None
returns-in-None g c = under_source c.args.options c.limits_of-limits.result.nodes _ _ c.answer_source.result c.limits_of-limits.ensures.nodes c.in-Redlog.is c.in-None.is c.answer_source.ensures
