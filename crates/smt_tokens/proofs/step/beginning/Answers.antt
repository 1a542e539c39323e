use Rattle.std.proofs.Common.{sym, ◌∙◌}
use Rattle.smt_tokens.proofs.Begun.{group_begins, loose_begins}
use Rattle.smt_tokens.proofs.step.beginning.Goals as goal

pub returns-then-is_open-clause-goes : goal.returns-then-is_open-clause-goes
returns-then-is_open-clause-goes c = λ total ts cs. group_begins total c.args.lexeme.now ts cs (sym c.is_open.ensures ∙ c.if-is_open.true)

pub returns-else-is_open-clause-goes : goal.returns-else-is_open-clause-goes
returns-else-is_open-clause-goes c = λ total ts cs. loose_begins total c.args.lexeme.now ts cs (sym c.is_open.ensures ∙ c.if-is_open.false)
