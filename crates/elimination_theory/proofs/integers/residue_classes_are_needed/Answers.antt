use Rattle.elimination_theory.proofs.IntegerExamples.{classes_are_needed}
use Rattle.elimination_theory.proofs.integers.residue_classes_are_needed.Goals as goal

pub returns : goal.returns
returns c = classes_are_needed
