use Rattle.std.proofs.Common.{arith}
use borrow.Author.Tests.{ltb-true, ltb-false}
use Rattle.smt_reader.proofs.Lists.{no_two}
use Rattle.smt_reader.proofs.binding.two.Goals as goal
use Rattle.smt_reader.proofs.binding.two.Goals.{in_default-via-then-parts-lt2, in_default-via-else-parts-lt2+else-parts-lt3}

pub returns-in_default : goal.returns-in_default
returns-in_default c =
    elim c.in_default.branch [
      | in_default-via-then-parts-lt2 w ↦ no_two _ (λ e. omega (arith, ltb-true, ltb-false))
      | in_default-via-else-parts-lt2+else-parts-lt3 w ↦ no_two _ (λ e. omega (arith, ltb-true, ltb-false))
    ]
