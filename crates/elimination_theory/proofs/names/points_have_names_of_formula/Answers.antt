use Rattle.elimination_theory.proofs.IntegersNames.{point_names}
use Rattle.elimination_theory.proofs.names.points_have_names_of_formula.Goals as goal

pub returns : goal.returns
returns c = point_names
