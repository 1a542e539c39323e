use Rattle.elimination_theory.proofs.SentenceExample.{none_greatest_true}
use Rattle.elimination_theory.proofs.truth.none_greatest_is_true.Goals as goal

pub returns : goal.returns
returns c = none_greatest_true
