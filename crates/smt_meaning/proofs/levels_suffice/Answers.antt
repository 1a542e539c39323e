use Rattle.smt_meaning.proofs.MeaningNames.{levels_suffice}
use Rattle.smt_meaning.proofs.levels_suffice.Goals as goal

pub returns : goal.returns
returns c = levels_suffice
