use Rattle.std.proofs.Common.{ap, arith}
use Rattle.std.proofs.lemmas.Grind.{common_steps}
use Rattle.qe_io.proofs.Given.{gave_front}
use Rattle.qe_io.proofs.memory.MemorySourceSource.read.Goals as goal

pub returns-clause-bytes : goal.returns-clause-bytes
returns-clause-bytes c =
    gave_front c.self.inside.bytes.items c.self.inside.next c.min-count.result c.args.self.now.left _ (ap (λ b. b.left) c.self.view_is) (grind (arith, common_steps))
