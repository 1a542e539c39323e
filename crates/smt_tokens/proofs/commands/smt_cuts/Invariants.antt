use Rattle.std.proofs.Common.{◌-◌, ◌≤◌, List, ◌++◌, length}
use Rattle.smt_language.specs.declared.token.SmtCut.{SmtCut}
use Rattle.smt_language.specs.declared.token.SmtLexeme.{SmtLexeme}
use Rattle.smt_tokens.specs.Fronts.{LexesFrom}
use Rattle.smt_language.specs.Commands.{AreCommands}
use Rattle.smt_tokens.specs.Begun.{GoesOn, open_inside}
use Rattle.smt_tokens.proofs.commands.smt_cuts.Given as goal

abbrev pub invariant-tokens : goal.invariant-tokens
invariant-tokens l = record {
  within : l.from ≤ length l.bytes;
  depth : open_inside l.begun ≤ l.from;
  goes : (ts : List SmtLexeme) (cs : List SmtCut) → LexesFrom l.bytes l.from ts → GoesOn (length l.bytes) l.begun ts cs → AreCommands l.bytes (l.cuts.items ++ cs);
}

abbrev pub decreases-tokens : goal.decreases-tokens
decreases-tokens l = length l.bytes - l.from
