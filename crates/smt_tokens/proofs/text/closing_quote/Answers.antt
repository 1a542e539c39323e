use Rattle.std.proofs.Common.{◌∙◌, arith}
use Rattle.smt_tokens.proofs.Quotes.{past_other, past_two}
use Rattle.smt_tokens.proofs.text.closing_quote.Goals as goal

pub bytes-preserved-then-bytes-at-ne34 : goal.bytes-preserved-then-bytes-at-ne34
bytes-preserved-then-bytes-at-ne34 c = record {
  within = omega (arith, c.bytes-test.true);
  place = c.bytes.invariant.place ∙ past_other c.args.bytes.now c.bytes.at c.bytes-test.true c.if-bytes-at-ne34.true;
}

pub bytes-preserved : goal.bytes-preserved
bytes-preserved c = record {
  within = omega (arith, c.if-at-bytes.true);
  place = c.bytes.invariant.place ∙ past_two c.args.bytes.now c.bytes.at c.bytes-test.true c.if-at-bytes.true c.if-bytes-at-ne34.false c.if-bytes-at-eq34.true;
}
