use Rattle.case_theory.proofs.Pending.{covered_goes, other_covers}
use Rattle.case_theory.proofs.laws.covered_branch_may_go.Goals as goal

pub returns : goal.returns
returns c = record { goes = covered_goes; covers = other_covers }
