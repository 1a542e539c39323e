use Rattle.elimination_theory.proofs.IntegersNames.{substitution_names}
use Rattle.elimination_theory.proofs.names.substitution_keeps_names.Goals as goal

pub returns : goal.returns
returns c = substitution_names
