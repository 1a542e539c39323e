use Rattle.std.proofs.Common.{◌-◌, ◌≤◌, List, ◌++◌, length}
use Rattle.smt_language.specs.declared.token.SmtLexeme.{SmtLexeme}
use Rattle.smt_language.specs.Lexing.{Lexes}
use Rattle.smt_tokens.specs.Fronts.{LexesFrom}
use Rattle.smt_tokens.proofs.scan.lexemes.Given as goal

abbrev pub invariant-tokens : goal.invariant-tokens
invariant-tokens l = (l.from ≤ length l.bytes) × ((ts : List SmtLexeme) → LexesFrom l.bytes l.from ts → Lexes l.bytes 0 (l.list.items ++ ts))

abbrev pub decreases-tokens : goal.decreases-tokens
decreases-tokens l = length l.bytes - l.from
