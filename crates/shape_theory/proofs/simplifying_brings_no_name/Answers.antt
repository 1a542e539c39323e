use Rattle.shape_theory.proofs.TreeLaws.{keeps_shape, brings_no_name}
use Rattle.shape_theory.proofs.simplifying_brings_no_name.Goals as goal

pub returns : goal.returns
returns c = record { shape = keeps_shape; names = brings_no_name }
