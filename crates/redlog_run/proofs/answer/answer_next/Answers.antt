use Rattle.std.proofs.Common.{take, ◌++◌, length, sym, subst}
use Rattle.redlog_tokens.specs.Pieces.{Follows}
use Rattle.redlog_run.proofs.Standing.{stands_fed, stands_cut}
use Rattle.redlog_run.proofs.answer.answer_next.Goals as goal

pub returns-clause-stands : goal.returns-clause-stands
returns-clause-stands g c = λ limit given written h.
    let a = c.args.answering.now in
    let bytes = given ++ take c.in_ok-taken.taken c.args.bytes.now in
    let fed = stands_fed limit given (take c.in_ok-taken.taken c.args.bytes.now) (written ++ a.answers.lines.items) a c.feed.new.self c.in_ok-taken.ensures.follows h in
    let cut = c.in-Some.ensures.cut bytes fed.to fed.follows in
    stands_cut limit bytes written (record a { splitter = c.feed.new.self }) fed c.answer_cut.new.session c.answer_cut.new.answers c.in-Some.cut c.in_ok-ends.ends c.in_ok-ends.ensures.adds c.in_ok-ends.ensures.limits
    c.reuse.new.self c.end.new.self cut.0 (subst (Follows bytes (length bytes)) (sym c.reuse.ensures) cut.1)
