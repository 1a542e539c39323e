use Rattle.std.proofs.Common.{ap, ◌∙◌}
use Rattle.formula_resolving.specs.Heights.{over}
use Rattle.formula_resolving.proofs.PartLaws.{finished_as, finished_id, ok_map, pair_part}
use Rattle.formula_resolving.proofs.steps.paired_part.Goals as goal

pub returns-clause-read : goal.returns-clause-read
returns-clause-read g c =
    ok_map c.finish.result (λ r w k bound names f h i j. pair_part k bound names _ _ _ _ f h c.args.left c.args.right r i j c.args.pair (finished_as w c.«or».ensures (c.above.ensures ∙ ap over c.max.ensures) c.over.ensures)) c.finish.ensures.finished

pub returns-clause-ids : goal.returns-clause-ids
returns-clause-ids g c = ok_map c.finish.result (λ r w. finished_id w) c.finish.ensures.finished
