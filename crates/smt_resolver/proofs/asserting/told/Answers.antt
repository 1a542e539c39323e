use Rattle.smt_resolver.proofs.Assertions.{never_told}
use Rattle.smt_resolver.proofs.asserting.told.Goals as goal

pub unreachable-requires : goal.unreachable-requires
unreachable-requires c = absurd (never_told c.args.cause c.in-Unbound.is c.requires)
