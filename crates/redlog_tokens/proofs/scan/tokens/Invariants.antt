use Rattle.std.proofs.Common.{◌-◌, ◌≤◌, List, ◌++◌, map, length}
use Rattle.language_meaning.specs.declared.lexer.Lexeme.{Lexeme}
use Rattle.language_meaning.specs.Lexing.{Lexes, LexesFrom}
use Rattle.redlog_tokens.specs.Longest.{lexeme_of}
use Rattle.redlog_tokens.proofs.scan.tokens.Given as goal

abbrev pub invariant-tokens : goal.invariant-tokens
invariant-tokens l = (l.from ≤ length l.bytes) × ((ts : List Lexeme) → LexesFrom l.bytes l.from ts → Lexes l.bytes 0 (map lexeme_of l.list.items ++ ts))

abbrev pub decreases-tokens : goal.decreases-tokens
decreases-tokens l = length l.bytes - l.from
