use Rattle.std.proofs.Common.{◌++◌}
use Rattle.redlog_run.proofs.Standing.{last_cut, last_none}
use Rattle.redlog_run.proofs.answer.answer_last.Goals as goal

pub returns-in_default : goal.returns-in_default
returns-in_default g c = λ limit given written h.
    let a = c.args.answering in
    last_none limit given (written ++ a.answers.lines.items) a h (c.in_default.ensures.none given h.to h.follows)

pub returns : goal.returns
returns g c = λ limit given written h.
    last_cut limit given written c.args.answering h c.answer_cut.new.session c.answer_cut.new.answers c.in-Some.cut c.in_ok-_ends._ends c.in_ok-_ends.ensures.adds c.in_ok-_ends.ensures.limits
    (c.in-Some.ensures.last given h.to h.follows)
