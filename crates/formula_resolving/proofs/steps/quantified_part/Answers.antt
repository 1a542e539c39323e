use Rattle.std.proofs.Common.{refl}
use Rattle.formula_resolving.specs.declared.parts.Opening.{Opening}
use Rattle.formula_resolving.proofs.PartLaws.{finished_as, finished_id, ok_map, quantified_part}
use Rattle.formula_resolving.proofs.steps.quantified_part.Goals as goal

pub returns-clause-read : goal.returns-clause-read
returns-clause-read g c =
    let q : Opening = record { quantifier = c.args.quantifier; name = c.args.name } in
    ok_map c.finish.result (λ r w k bound names x f e h. quantified_part k bound names _ _ _ _ q x f c.args.part r e h (finished_as w refl c.above.ensures c.over.ensures)) c.finish.ensures.finished

pub returns-clause-ids : goal.returns-clause-ids
returns-clause-ids g c = ok_map c.finish.result (λ r w. finished_id w) c.finish.ensures.finished
