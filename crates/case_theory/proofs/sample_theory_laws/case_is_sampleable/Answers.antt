use Rattle.case_theory.proofs.Cases.{case_sampleable}
use Rattle.case_theory.proofs.sample_theory_laws.case_is_sampleable.Goals as goal

pub returns : goal.returns
returns c = case_sampleable
