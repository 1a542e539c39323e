use Rattle.case_theory.proofs.Inside.{inside_covered_goes}
use Rattle.case_theory.proofs.laws.inside_covered_may_go.Goals as goal

pub returns : goal.returns
returns c = inside_covered_goes
