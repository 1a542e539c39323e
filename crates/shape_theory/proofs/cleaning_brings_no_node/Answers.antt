use Rattle.shape_theory.proofs.CleanFormsTreeLaws.{brings_no_node, lengthens_no_text}
use Rattle.shape_theory.proofs.cleaning_brings_no_node.Goals as goal

pub returns : goal.returns
returns c = record { nodes = brings_no_node; text = lengthens_no_text }
