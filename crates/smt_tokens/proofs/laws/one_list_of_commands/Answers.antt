use Rattle.smt_tokens.proofs.CommandLemmas.{some_commands, same_commands}
use Rattle.smt_tokens.proofs.laws.one_list_of_commands.Goals as goal

pub returns : goal.returns
returns c = record { some = some_commands; one = same_commands }
