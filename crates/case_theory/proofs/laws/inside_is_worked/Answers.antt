use Rattle.case_theory.proofs.Ends.{inside_worked}
use Rattle.case_theory.proofs.laws.inside_is_worked.Goals as goal

pub returns : goal.returns
returns c = inside_worked
