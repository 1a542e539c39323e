use Rattle.redlog_tokens.proofs.Lexemes.{past_digit}
use Rattle.redlog_tokens.proofs.lexer.literal_after.Goals as goal

pub returns-then-value : goal.returns-then-value
returns-then-value c = past_digit c.args.before c.args.digits.now c.digits.digit-index c.digits.value c.digits.invariant c.digits-test.true c.if-value.true
