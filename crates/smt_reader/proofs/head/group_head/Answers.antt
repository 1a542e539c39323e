use Rattle.std.proofs.Common.{arith, sym}
use Rattle.smt_reader.proofs.Lists.{no_three}
use Rattle.smt_reader.proofs.head.group_head.Goals as goal

pub returns-in_default : goal.returns-in_default
returns-in_default c = sym (no_three _ (λ e. omega arith))

pub returns-in_default-2 : goal.returns-in_default-2
returns-in_default-2 c = sym (no_three _ (λ e. omega arith))
