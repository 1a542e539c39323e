use Rattle.std.proofs.Common.{Some}
use Rattle.written_syntax.specs.CodeTrees.{formula_tree}
use Rattle.session_state.specs.Keeping.{state_of}
use Rattle.form_commands.proofs.AssumptionLemmas.{first_unread}
use Rattle.form_commands.proofs.assumptions.read_one.Goals as goal

pub returns-in_ok-error-in-Err-clause-first : goal.returns-in_ok-error-in-Err-clause-first
returns-in_ok-error-in-Err-clause-first c = record {
  cause = Some c.in-Err.error;
  first = first_unread (state_of c.args.state.now) (formula_tree c.args.formula.now) c.in-Err.error c.in_ok-error-in-Err.ensures.cause c.in-Err.ensures.unread;
  joined = c.in_ok-error-in-Err.ensures.earlier;
}
