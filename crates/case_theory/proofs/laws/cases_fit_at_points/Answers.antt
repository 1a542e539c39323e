use Rattle.case_theory.proofs.FitAt.{cases_fit_at}
use Rattle.case_theory.proofs.laws.cases_fit_at_points.Goals as goal

pub returns : goal.returns
returns c = cases_fit_at
