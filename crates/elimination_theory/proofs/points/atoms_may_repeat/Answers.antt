use Rattle.elimination_theory.proofs.StandOnce.{atoms_repeat}
use Rattle.elimination_theory.proofs.points.atoms_may_repeat.Goals as goal

pub returns : goal.returns
returns c = atoms_repeat
