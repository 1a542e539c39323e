use Rattle.case_theory.proofs.Sampleable.{lead_sampleable}
use Rattle.case_theory.proofs.sample_theory_laws.lead_is_sampleable.Goals as goal

pub returns : goal.returns
returns c = lead_sampleable
