use Rattle.normal_atoms.proofs.NormalLaws.{normal_truth, normal_names, normal_within, normal_normal, normal_atomic}
use Rattle.normal_atoms.proofs.laws.normal_form_keeps_truth.Goals as goal

pub returns : goal.returns
returns c = record { truth = normal_truth; names = normal_names; normal = λ x a i. (normal_atomic x a, normal_within x a i, normal_normal x a i) }
