use Rattle.std.proofs.Common.{ap, refl}
use Rattle.normal_atoms.specs.Atoms.{context_of}
use Rattle.formula_resolving.specs.MetCauses.{atom_causes}
use Rattle.formula_resolving.proofs.AtomLaws.{congruence_part}
use Rattle.formula_resolving.proofs.PartLaws.{finished_as, finished_id, ok_map}
use Rattle.formula_resolving.proofs.steps.congruent_part.Goals as goal

pub returns-clause-read : goal.returns-clause-read
returns-clause-read g c =
    ok_map c.atom_part.result
    (λ r w bound names s t m h. congruence_part (context_of c.args.context) bound names _ _ _ c.args.holds s t m c.args.read r h (finished_as w (ap (atom_causes c.args.read.causes) c.is_fields.ensures) refl refl))
    c.atom_part.ensures.finished

pub returns-clause-ids : goal.returns-clause-ids
returns-clause-ids g c = ok_map c.atom_part.result (λ r w. finished_id w) c.atom_part.ensures.finished
