use Rattle.std.proofs.Common.{refl, ap, Some}
use Rattle.formula_resolving.proofs.PartLaws.{finished_as, finished_id, ok_map, joint_part}
use Rattle.formula_resolving.proofs.steps.joined_part.Goals as goal

pub returns-clause-read : goal.returns-clause-read
returns-clause-read g c = ok_map c.finish.result (λ r w k bound names fs h. joint_part k bound names _ _ _ _ fs c.args.members r c.args.junction h (finished_as w refl c.above.ensures (ap Some c.joined.ensures))) c.finish.ensures.finished

pub returns-clause-ids : goal.returns-clause-ids
returns-clause-ids g c = ok_map c.finish.result (λ r w. finished_id w) c.finish.ensures.finished
