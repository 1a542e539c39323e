use Rattle.std.proofs.Common.{sym, ◌∙◌}
use Rattle.smt_tokens.specs.CodeTrees.{command_tree}
use Rattle.smt_reader.proofs.Lists.{not_alone}
use Rattle.smt_reader.proofs.command.alone.Goals as goal

pub returns-then-not-is_empty-clause-refused : goal.returns-then-not-is_empty-clause-refused
returns-then-not-is_empty-clause-refused c = not_alone (command_tree c.args.command) c.args.parts.now (sym c.is_empty.ensures ∙ c.if-not-is_empty.true)
