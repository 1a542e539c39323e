use Rattle.case_theory.proofs.OneValue.{value_true}
use Rattle.case_theory.proofs.sample_theory_laws.value_is_true.Goals as goal

pub returns : goal.returns
returns c = value_true
