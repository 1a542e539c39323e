use Rattle.case_theory.proofs.Lists.{taken_out}
use Rattle.case_theory.proofs.laws.taking_out_leaves_rest.Goals as goal

pub returns : goal.returns
returns c = taken_out
