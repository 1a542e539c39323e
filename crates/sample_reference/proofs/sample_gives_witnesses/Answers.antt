use Rattle.sample_reference.proofs.Witnesses.{gives_witnesses}
use Rattle.sample_reference.proofs.sample_gives_witnesses.Goals as goal

pub returns : goal.returns
returns c = gives_witnesses
