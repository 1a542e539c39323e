use Rattle.case_theory.proofs.ClassSample.{class_sample_true}
use Rattle.case_theory.proofs.laws.class_sample_is_true.Goals as goal

pub returns : goal.returns
returns c = class_sample_true
