use Rattle.std.proofs.Common.{map, Some}
use Rattle.logic_meaning.specs.declared.side.Side.TheVariants.{Lower, Upper}
use Rattle.normal_atoms.specs.declared.atoms.Context.TheVariants.{Integers}
use Rattle.normal_atoms.specs.Atoms.{atom_of}
use Rattle.branch_points.proofs.FewestPoints.{candidate_has, either_side}
use Rattle.branch_points.proofs.counts.cheaper_side.Goals as goal

pub returns-clause-least : goal.returns-clause-least
returns-clause-least c =
    let atoms = map atom_of c.args.atoms.now in
    let lower = c.on_side-lower in let upper = c.on_side-upper in
    either_side Integers atoms c.args.x c.fewer.result (Some lower.result) (Some upper.result) c.fewer.ensures.least
    (candidate_has atoms lower.result c.args.x Lower lower.ensures.name lower.ensures.side lower.ensures.candidate)
    (candidate_has atoms upper.result c.args.x Upper upper.ensures.name upper.ensures.side upper.ensures.candidate)
