use Rattle.case_theory.proofs.Worked.{working_goes_on}
use Rattle.case_theory.proofs.laws.working_goes_on.Goals as goal

pub returns : goal.returns
returns c = working_goes_on
