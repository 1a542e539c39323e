use Rattle.shape_theory.proofs.TreeLaws.{quantifies_no_name, brings_no_quantifier}
use Rattle.shape_theory.proofs.simplifying_brings_no_quantifier.Goals as goal

pub returns : goal.returns
returns c = record { names = quantifies_no_name; free = brings_no_quantifier }
