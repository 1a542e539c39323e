use Rattle.std.proofs.Common.{refl}
use Rattle.written_syntax.proofs.InnerCommands.{not_alone}
use Rattle.written_syntax.proofs.tree.Formula.into_command.Goals as goal

pub returns-in_default : goal.returns-in_default
returns-in_default c = record { command = tt; other = refl; none = not_alone c.args.self c.in_default.not-Computed }
