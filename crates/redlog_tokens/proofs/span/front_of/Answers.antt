use Rattle.std.proofs.Common.{arith, ◌+◌, get_or, drop, sym, ap, ◌∙◌}
use Rattle.redlog_tokens.specs.Spans.{commented, span}
use Rattle.redlog_tokens.proofs.Spans.{one_more, comment_of_one_more}
use Rattle.redlog_tokens.proofs.span.front_of.Goals as goal

pub loop-length-preserved : goal.loop-length-preserved
loop-length-preserved c =
    let bytes = c.args.bytes.now in
    let i = c.loop-length.length in
    let b = get_or bytes i 0 in
    let one = one_more c.args.passed c.loop-length.comment bytes i c.loop-length-test.true (sym c.passes.ensures ∙ c.if-not-passes.false) in
    let same = ap (λ d. span c.args.passed d (drop (i + 1) bytes)) c.commented-comment.ensures in
    record {
      passed = omega (arith, c.loop-length.invariant.passed, one, same);
      comment = c.commented-comment.ensures ∙ ap (λ d. commented d b) c.loop-length.invariant.comment ∙ sym (comment_of_one_more c.args.comment bytes i c.loop-length-test.true);
    }
