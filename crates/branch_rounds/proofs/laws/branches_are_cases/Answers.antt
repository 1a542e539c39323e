use Rattle.branch_rounds.proofs.Ended.{branches_are_cases}
use Rattle.branch_rounds.proofs.laws.branches_are_cases.Goals as goal

pub returns : goal.returns
returns c = branches_are_cases
