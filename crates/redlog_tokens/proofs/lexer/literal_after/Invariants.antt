use Rattle.std.proofs.Common.{◌≡◌, drop}
use Rattle.language_meaning.specs.Lexing.{value_after}
use Rattle.redlog_tokens.proofs.lexer.literal_after.Given as goal

abbrev pub invariant-digits : goal.invariant-digits
invariant-digits l = value_after l.fn.before l.digits ≡ value_after l.value (drop l.digit-index l.digits)
