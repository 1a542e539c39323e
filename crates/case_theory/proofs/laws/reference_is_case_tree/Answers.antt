use Rattle.case_theory.proofs.Fallback.{reference_tree, matrix_normal, reference_matrix}
use Rattle.case_theory.proofs.laws.reference_is_case_tree.Goals as goal

pub returns : goal.returns
returns c = record { cases = reference_tree; normal = matrix_normal; matrix = reference_matrix }
