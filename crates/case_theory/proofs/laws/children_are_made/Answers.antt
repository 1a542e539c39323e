use Rattle.case_theory.proofs.Children.{children_made}
use Rattle.case_theory.proofs.laws.children_are_made.Goals as goal

pub returns : goal.returns
returns c = children_made
