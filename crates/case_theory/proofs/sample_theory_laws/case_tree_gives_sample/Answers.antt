use Rattle.case_theory.proofs.Cases.{case_tree_gives}
use Rattle.case_theory.proofs.sample_theory_laws.case_tree_gives_sample.Goals as goal

pub returns : goal.returns
returns c = case_tree_gives
