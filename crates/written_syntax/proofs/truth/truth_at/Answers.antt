use Rattle.written_syntax.specs.CodeTrees.{formula_tree}
use Rattle.written_syntax.proofs.TruthLaw.{decides_truth}
use Rattle.written_syntax.proofs.truth.truth_at.Goals as goal

pub returns-clause-truth : goal.returns-clause-truth
returns-clause-truth c =
    decides_truth (formula_tree c.args.formula.now) c.args.point.now c.formula_truth.result c.requires.free c.requires.testable c.formula_truth.ensures
