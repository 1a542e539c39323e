use Rattle.std.proofs.lemmas.Bool.{false≢true}
use Rattle.written_syntax.proofs.EntryNumbers.{proper_divided}
use Rattle.written_syntax.proofs.point.check_entries.Goals as goal

pub has_broken-requires : goal.has_broken-requires
has_broken-requires c = proper_divided _ c.requires (λ s. false≢true (c.if-has_zero_below.ensures.1 s))
