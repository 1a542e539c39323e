use Rattle.std.proofs.Common.{◌≡◌, map, drop}
use Rattle.smt_language.specs.Words.{known}
use Rattle.smt_tokens.specs.WordPairs.{word_pair}
use Rattle.smt_tokens.proofs.word.among.Given as goal

abbrev pub invariant-entries : goal.invariant-entries
invariant-entries l = known l.text (map word_pair l.entries) ≡ known l.text (map word_pair (drop l.entry-index l.entries))
