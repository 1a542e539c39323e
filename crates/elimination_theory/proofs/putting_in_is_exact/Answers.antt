use Rattle.elimination_theory.proofs.PutIn.{putting_in_exact}
use Rattle.elimination_theory.proofs.putting_in_is_exact.Goals as goal

pub returns : goal.returns
returns c = putting_in_exact
