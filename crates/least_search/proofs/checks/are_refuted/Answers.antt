use Rattle.std.proofs.Common.{map}
use Rattle.linear_theory.proofs.Refutes.{refutes}
use Rattle.certificates.specs.Constraints.{constraint_of}
use Rattle.least_search.proofs.checks.are_refuted.Goals as goal

pub returns-in-Ok : goal.returns-in-Ok
returns-in-Ok c = λ t p o h. refutes (map constraint_of c.args.rows.now) c.args.multipliers.now (c.in-Ok.ensures.decides.0 t) p o h
