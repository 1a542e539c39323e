use Rattle.std.proofs.Common.{sym, ◌∙◌, arith}
use Rattle.smt_tokens.proofs.Begun.{depth_rises, depth_falls, depth_stays, group_ends, with_none}
use Rattle.smt_tokens.proofs.step.grouped.Goals as goal

pub returns-then-is_open-clause-goes : goal.returns-then-is_open-clause-goes
returns-then-is_open-clause-goes c =
    with_none c.going.ensures.ended (depth_rises c.args.start c.args.depth c.args.lexeme.now c.going.result.begun c.going.ensures.begun (sym c.is_open.ensures ∙ c.if-is_open.true))

pub returns-then-not-is_close-clause-goes : goal.returns-then-not-is_close-clause-goes
returns-then-not-is_close-clause-goes c =
    let step = c.going-then-not-is_close in
    with_none step.ensures.ended
    (depth_stays c.args.start c.args.depth c.args.lexeme.now step.result.begun step.ensures.begun (sym c.is_open.ensures ∙ c.if-is_open.false) (sym c.is_close.ensures ∙ c.if-not-is_close.true))

pub returns-then-depth-gt0-clause-goes : goal.returns-then-depth-gt0-clause-goes
returns-then-depth-gt0-clause-goes c =
    let step = c.going-then-depth-gt0 in
    with_none step.ensures.ended
    (depth_falls c.args.start c.args.depth c.args.lexeme.now step.result.begun step.ensures.begun c.if-depth-gt0.true (sym c.is_close.ensures ∙ c.if-not-is_close.false))

pub returns-clause-goes : goal.returns-clause-goes
returns-clause-goes c = group_ends c.args.start c.args.depth c.args.lexeme.now (omega arith) (sym c.is_close.ensures ∙ c.if-not-is_close.false)
