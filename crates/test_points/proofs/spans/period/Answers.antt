use Rattle.std.proofs.Common.{refl}
use Rattle.linear_forms.proofs.Places.{at_none}
use Rattle.test_points.proofs.Steps.{past_scale}
use Rattle.test_points.proofs.spans.period.Goals as goal

pub returns-in_default : goal.returns-in_default
returns-in_default c = (refl, past_scale c.args.x.number c.args.atoms.now c.requires (at_none c.scale.result _ _ c.in_default.is c.scale.ensures))
