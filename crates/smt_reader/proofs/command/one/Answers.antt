use Rattle.std.proofs.Common.{arith}
use borrow.Author.Tests.{ltb-true, ltb-false}
use Rattle.smt_reader.proofs.Lists.{no_one}
use Rattle.smt_reader.proofs.command.one.Goals as goal
use Rattle.smt_reader.proofs.command.one.Goals.{in_default-via-then-parts-lt1, in_default-via-else-parts-lt1+else-parts-lt2}

pub returns-in_default : goal.returns-in_default
returns-in_default c =
    elim c.in_default.branch [
      | in_default-via-then-parts-lt1 w ↦ no_one _ (λ e. omega (arith, ltb-true, ltb-false))
      | in_default-via-else-parts-lt1+else-parts-lt2 w ↦ no_one _ (λ e. omega (arith, ltb-true, ltb-false))
    ]
