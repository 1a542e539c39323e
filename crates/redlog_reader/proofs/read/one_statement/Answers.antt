use Rattle.redlog_reader.proofs.Whole.{spells_once}
use Rattle.redlog_reader.proofs.read.one_statement.Goals as goal

pub returns : goal.returns
returns c = spells_once
