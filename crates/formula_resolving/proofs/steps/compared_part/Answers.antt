use Rattle.formula_resolving.proofs.AtomLaws.{compare_part}
use Rattle.formula_resolving.proofs.PartLaws.{finished_id, ok_map}
use Rattle.formula_resolving.proofs.steps.compared_part.Goals as goal

pub returns-clause-read : goal.returns-clause-read
returns-clause-read g c = ok_map c.atom_part.result (λ r w k bound names rel s t h. compare_part k bound names _ _ _ rel s t c.args.read r h w) c.atom_part.ensures.finished

pub returns-clause-ids : goal.returns-clause-ids
returns-clause-ids g c = ok_map c.atom_part.result (λ r w. finished_id w) c.atom_part.ensures.finished
