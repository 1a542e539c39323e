use Rattle.smt_theorems.proofs.Meant.{sentence_is_meant}
use Rattle.smt_theorems.proofs.sentence_is_meant.Goals as goal

pub returns : goal.returns
returns c = sentence_is_meant
