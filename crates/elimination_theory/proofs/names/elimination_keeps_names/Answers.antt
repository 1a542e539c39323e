use Rattle.elimination_theory.proofs.IntegersNames.{elimination_names}
use Rattle.elimination_theory.proofs.names.elimination_keeps_names.Goals as goal

pub returns : goal.returns
returns c = elimination_names
