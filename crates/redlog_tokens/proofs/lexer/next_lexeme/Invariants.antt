use Rattle.std.proofs.Common.{◌-◌, ◌≤◌, List, length}
use Rattle.language_meaning.specs.declared.lexer.Lexeme.{Lexeme}
use Rattle.language_meaning.specs.Lexing.{LexesFrom}
use Rattle.redlog_tokens.proofs.lexer.next_lexeme.Given as goal

abbrev pub invariant-spaces : goal.invariant-spaces
invariant-spaces l = (l.from ≤ l.start) × (l.start ≤ length l.bytes) × ((ts : List Lexeme) → LexesFrom l.bytes l.start ts → LexesFrom l.bytes l.from ts)

abbrev pub decreases-spaces : goal.decreases-spaces
decreases-spaces l = length l.bytes - l.start
