use Rattle.elimination_theory.proofs.CasesExact.{cases_exact}
use Rattle.elimination_theory.proofs.cases_are_exact.Goals as goal

pub returns : goal.returns
returns c = cases_exact
