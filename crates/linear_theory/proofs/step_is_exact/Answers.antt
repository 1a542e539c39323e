use Rattle.linear_theory.proofs.StepExact.{step_exact}
use Rattle.linear_theory.proofs.step_is_exact.Goals as goal

pub returns : goal.returns
returns c = step_exact
