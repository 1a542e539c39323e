use Rattle.std.proofs.Common.{rules}
use Rattle.redlog_run.proofs.Spelling.{excluded}
use Rattle.redlog_run.proofs.words.spelled.Goals as goal

pub returns-in-SmtLib : goal.returns-in-SmtLib
returns-in-SmtLib c = excluded c.args.words.now c.in_ok-options.options c.in_ok-options.ensures c.in-SmtLib.is (search rules)
