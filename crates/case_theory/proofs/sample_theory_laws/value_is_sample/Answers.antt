use Rattle.case_theory.proofs.OneValue.{value_sample}
use Rattle.case_theory.proofs.sample_theory_laws.value_is_sample.Goals as goal

pub returns : goal.returns
returns c = value_sample
