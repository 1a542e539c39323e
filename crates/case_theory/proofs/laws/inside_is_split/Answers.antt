use Rattle.case_theory.proofs.Inside.{inside_is_split}
use Rattle.case_theory.proofs.laws.inside_is_split.Goals as goal

pub returns : goal.returns
returns c = inside_is_split
