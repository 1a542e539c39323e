use Rattle.std.proofs.Common.{refl}
use Rattle.theory_simplifier.specs.VariableParts.{mixed}
use Rattle.theory_simplifier.proofs.unchanged.mixed.Goals as goal

pub returns : goal.returns
unfolding mixed
returns c = refl
