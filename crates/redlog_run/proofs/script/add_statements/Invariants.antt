use Rattle.std.proofs.Common.{◌≡◌, ◌++◌}
use Rattle.program_meaning.specs.Generated.{statements}
use Rattle.redlog_run.proofs.script.add_statements.Given as goal

abbrev pub invariant-statements : goal.invariant-statements
invariant-statements l = l.script.items ≡ l.fn.script.items ++ statements l.before
