use Rattle.case_theory.proofs.Simplified.{tidy_simplifiable, reduced_tidy, simplifying_works}
use Rattle.case_theory.proofs.laws.simplifying_is_work.Goals as goal

pub returns : goal.returns
returns c = record { simplifiable = tidy_simplifiable; tidy = reduced_tidy; work = simplifying_works }
