use Rattle.std.proofs.Common.{sym, ◌∙◌}
use Rattle.smt_reader.proofs.Lists.{some_named}
use Rattle.smt_reader.proofs.command.some_names.Goals as goal

pub returns-clause-read : goal.returns-clause-read
returns-clause-read c = let e = some_named c.args.parts.now (sym c.is_empty.ensures ∙ c.if-is_empty.false) in rw (← e) c.names.ensures.read
