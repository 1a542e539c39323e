use Rattle.std.proofs.Common.{ap, refl}
use Rattle.formula_resolving.specs.BoundIds.{answered_trees}
use Rattle.formula_resolving.specs.MetCauses.{atom_causes}
use Rattle.formula_resolving.proofs.PartLaws.{finished_as, ok_map}
use Rattle.formula_resolving.proofs.AtomLaws.{read_proper, congruence_part}
use Rattle.formula_resolving.proofs.reading.congruence_part.Goals as goal

pub atom_part-requires : goal.atom_part-requires
atom_part-requires g c = read_proper _ _ _ _ _ (c.in_ok-read.ensures (answered_trees (g.M.Maker.tree c.args.maker.now) c.args.scope.now.inner.now c.args.scope.now.bound.now))

pub returns-clause-read : goal.returns-clause-read
returns-clause-read g c =
    ok_map c.atom_part.result
    (λ r w. congruence_part _ _ _ _ _ _ c.args.holds _ _ _ c.in_ok-read.read r (c.in_ok-read.ensures (answered_trees (g.M.Maker.tree c.args.maker.now) c.args.scope.now.inner.now c.args.scope.now.bound.now)) (finished_as w (ap (atom_causes c.in_ok-read.read.causes) c.is_fields.ensures) refl refl))
    c.atom_part.ensures.finished
