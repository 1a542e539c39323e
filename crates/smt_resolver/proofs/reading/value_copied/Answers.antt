use Rattle.std.proofs.Common.{subst}
use Rattle.smt_resolver.specs.Readings.{IsMeaning}
use Rattle.smt_resolver.proofs.ReadingLaws.{term_copied}
use Rattle.smt_resolver.proofs.reading.value_copied.Goals as goal

pub returns-in_ok-copied-in-Term-clause-read : goal.returns-in_ok-copied-in-Term-clause-read
returns-in_ok-copied-in-Term-clause-read g c = λ m d limit k h.
    term_copied d limit (g.M.Maker.is_id m) (g.M.Maker.tree m) k c.in-Term.term c.in_ok-copied-in-Term.field-0 (c.in_ok-copied-in-Term.ensures d limit) (subst (IsMeaning d limit (g.M.Maker.is_id m) (g.M.Maker.tree m) k) c.in-Term.is h)
