use Rattle.case_theory.proofs.Fallback.{stops_one}
use Rattle.case_theory.proofs.laws.stops_are_one.Goals as goal

pub returns : goal.returns
returns c = stops_one
