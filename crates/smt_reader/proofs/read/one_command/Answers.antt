use Rattle.smt_reader.proofs.Spelling.{one_spelled}
use Rattle.smt_reader.proofs.read.one_command.Goals as goal

pub returns : goal.returns
returns c = one_spelled
