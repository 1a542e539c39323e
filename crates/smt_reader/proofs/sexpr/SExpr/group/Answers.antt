use Rattle.smt_reader.proofs.TreeEquations.{trees}
use Rattle.smt_reader.proofs.sexpr.SExpr.group.Goals as goal

pub returns : goal.returns
returns c = simp trees
