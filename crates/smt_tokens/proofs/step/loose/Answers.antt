use Rattle.std.proofs.Common.{sym, ◌∙◌}
use Rattle.smt_tokens.proofs.Begun.{run_stops, run_goes}
use Rattle.smt_tokens.proofs.step.loose.Goals as goal

pub returns-then-is_open-clause-goes : goal.returns-then-is_open-clause-goes
returns-then-is_open-clause-goes c =
    λ total ts cs later. run_stops total c.args.lexeme.now ts cs c.args.cut (sym c.is_open.ensures ∙ c.if-is_open.true) (c.beginning.ensures.goes total ts cs later)

pub returns-clause-goes : goal.returns-clause-goes
returns-clause-goes c = λ total ts cs. run_goes c.args.cut total c.args.lexeme.now ts cs (sym c.is_open.ensures ∙ c.if-is_open.false)
