use Rattle.elimination_theory.proofs.AtomsDecided.{atom_opposite}
use Rattle.elimination_theory.proofs.truth.opposite_is_negation.Goals as goal

pub returns : goal.returns
returns c = λ d a i p o. atom_opposite d a p i o
