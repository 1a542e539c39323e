use Rattle.shape_theory.proofs.TreeLaws.{brings_no_node, brings_no_atom}
use Rattle.shape_theory.proofs.simplifying_brings_no_node.Goals as goal

pub returns : goal.returns
returns c = record { nodes = brings_no_node; atoms = brings_no_atom }
