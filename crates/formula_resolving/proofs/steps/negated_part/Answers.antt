use Rattle.std.proofs.Common.{refl}
use Rattle.formula_resolving.proofs.PartLaws.{finished_as, finished_id, ok_map, not_part}
use Rattle.formula_resolving.proofs.steps.negated_part.Goals as goal

pub returns-clause-read : goal.returns-clause-read
returns-clause-read g c = ok_map c.finish.result (λ r w k bound names f h. not_part k bound names _ _ _ _ f c.args.part r h (finished_as w refl c.above.ensures c.negation.ensures)) c.finish.ensures.finished

pub returns-clause-ids : goal.returns-clause-ids
returns-clause-ids g c = ok_map c.finish.result (λ r w. finished_id w) c.finish.ensures.finished
