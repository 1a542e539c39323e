use Rattle.elimination_theory.proofs.Turned.{all_negated}
use Rattle.elimination_theory.proofs.all_is_negated_ex.Goals as goal

pub returns : goal.returns
returns c = all_negated
