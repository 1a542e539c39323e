use Rattle.linear_theory.proofs.Refutes.{refutes}
use Rattle.linear_theory.proofs.farkas_refutes.Goals as goal

pub returns : goal.returns
returns c = refutes
