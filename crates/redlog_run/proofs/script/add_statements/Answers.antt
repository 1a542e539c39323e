use Rattle.std.proofs.Common.{◌+◌, refl}
use Rattle.redlog_run.proofs.GeneratedScriptsSteps.{one_more}
use Rattle.redlog_run.proofs.script.add_statements.Goals as goal

pub statements-preserved : goal.statements-preserved
statements-preserved c =
    one_more c.args.script.now.items c.statements.script.items c.add_statement.new.script.items c.statements.before (c.statements.before + 1) (c.statements.before + 1) c.statements.invariant refl refl
    c.in_ok-add_statement.ensures
