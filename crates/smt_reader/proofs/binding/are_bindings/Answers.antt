use Rattle.std.proofs.Common.{sym, ◌∙◌}
use Rattle.smt_reader.proofs.Apart.{some_bindings}
use Rattle.smt_reader.proofs.binding.are_bindings.Goals as goal

pub returns : goal.returns
returns c = let e = some_bindings c.args.bindings.now (sym c.is_empty.ensures ∙ c.if-is_empty.false) in rw (← e) c.bind_apart.ensures
