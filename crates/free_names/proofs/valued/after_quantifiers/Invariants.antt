use Rattle.free_names.proofs.Named.{IsAfter}
use Rattle.free_names.proofs.valued.after_quantifiers.Given as goal

abbrev pub invariant-prefix : goal.invariant-prefix
invariant-prefix l = IsAfter l.formula l.inner
