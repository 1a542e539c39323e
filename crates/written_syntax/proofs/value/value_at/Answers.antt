use Rattle.std.proofs.lemmas.Result.{IfOk-weaker}
use Rattle.written_syntax.specs.CodeTrees.{term_tree}
use Rattle.written_syntax.proofs.ValueLaw.{evaluated_stands}
use Rattle.written_syntax.proofs.value.value_at.Goals as goal

pub returns-clause-value : goal.returns-clause-value
returns-clause-value c = IfOk-weaker c.term_value.result _ _ (λ v s. s.same) (evaluated_stands (term_tree c.args.term.now) c.args.point.now _ c.term_value.ensures)

pub returns-clause-lowest : goal.returns-clause-lowest
returns-clause-lowest c = IfOk-weaker c.term_value.result _ _ (λ v s. s.in_lowest) (evaluated_stands (term_tree c.args.term.now) c.args.point.now _ c.term_value.ensures)
