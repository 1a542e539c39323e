use Rattle.std.proofs.Common.{subst}
use Rattle.written_atoms.specs.Sum.{ShowsSum}
use Rattle.written_atoms.proofs.SharedSums.{form_shown}
use Rattle.written_atoms.proofs.sum.RunningSum.into_form.Goals as goal

pub returns-in_ok-into_form-in-Known : goal.returns-in_ok-into_form-in-Known
returns-in_ok-into_form-in-Known c p h = form_shown c.in-Known.total c.in_ok-into_form-in-Known.field-0 p c.in_ok-into_form-in-Known.ensures (subst (λ s. ShowsSum s p) c.in-Known.is h)
