use Rattle.std.proofs.Common.{arith}
use Rattle.std.proofs.lemmas.Grind.{common_steps}
use Rattle.qe_io.proofs.Given.{gave_front}
use Rattle.qe_io.proofs.steady.SteadySourceSource.read.Goals as goal

pub returns-clause-bytes : goal.returns-clause-bytes
returns-clause-bytes c =
    gave_front c.self.inside.bytes.items c.self.inside.next c.min-count.result c.args.self.now _ c.self.view_is (grind (arith, common_steps))
