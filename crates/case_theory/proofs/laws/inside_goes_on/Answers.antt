use Rattle.case_theory.proofs.Inside.{inside_goes_on}
use Rattle.case_theory.proofs.laws.inside_goes_on.Goals as goal

pub returns : goal.returns
returns c = inside_goes_on
