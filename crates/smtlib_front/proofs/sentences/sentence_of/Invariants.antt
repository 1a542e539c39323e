use Rattle.smtlib_front.proofs.Under.{IsUnder}
use Rattle.smtlib_front.proofs.sentences.sentence_of.Given as goal

abbrev pub invariant-levels : goal.invariant-levels
invariant-levels l = IsUnder l.fn.store l.asserted l.count l.store l.formula l.level

abbrev pub decreases-levels : goal.decreases-levels
decreases-levels l = l.level
