use Rattle.std.proofs.Common.{◌-◌, ◌≤◌, List, length}
use Rattle.smt_language.specs.declared.token.SmtLexeme.{SmtLexeme}
use Rattle.smt_tokens.specs.Fronts.{LexesFrom}
use Rattle.smt_tokens.proofs.lexer.next_lexeme.Given as goal

abbrev pub invariant-spaces : goal.invariant-spaces
invariant-spaces l = (l.from ≤ l.start) × (l.start ≤ length l.bytes) × ((ts : List SmtLexeme) → LexesFrom l.bytes l.start ts → LexesFrom l.bytes l.from ts)

abbrev pub decreases-spaces : goal.decreases-spaces
decreases-spaces l = length l.bytes - l.start
