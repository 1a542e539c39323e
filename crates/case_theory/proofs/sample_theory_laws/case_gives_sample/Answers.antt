use Rattle.case_theory.proofs.Reordered.{case_gives}
use Rattle.case_theory.proofs.sample_theory_laws.case_gives_sample.Goals as goal

pub returns : goal.returns
returns c = case_gives
