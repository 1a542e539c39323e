use Rattle.normal_atoms.proofs.NormalLaws.{negated_truth, negated_within, negated_names, negated_normal_is, negated_twice}
use Rattle.normal_atoms.proofs.laws.negation_is_opposite.Goals as goal

pub returns : goal.returns
returns c = record { truth = negated_truth; names = λ x a i. (negated_within x a i, negated_names a); normal = λ x a n. (negated_normal_is x a n, negated_twice x a n) }
