use Rattle.case_theory.proofs.Direct.{direct_exact, direct_within}
use Rattle.case_theory.proofs.laws.direct_answer_is_exact.Goals as goal

pub returns : goal.returns
returns c = record { exact = direct_exact; within = direct_within }
