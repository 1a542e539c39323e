use Rattle.std.proofs.Common.{◌≡◌, map, drop}
use Rattle.language_meaning.specs.Terminals.{known}
use Rattle.redlog_tokens.specs.TerminalList.{word_pair}
use Rattle.redlog_tokens.proofs.words.among.Given as goal

abbrev pub invariant-entries : goal.invariant-entries
invariant-entries l = known l.text (map word_pair l.entries) ≡ known l.text (map word_pair (drop l.entry-index l.entries))
