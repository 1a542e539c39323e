use Rattle.std.proofs.Common.{sym, ◌∙◌}
use Rattle.formula_resolving.proofs.AtomLaws.{shape_proper}
use Rattle.formula_resolving.proofs.parts.atom_part.Goals as goal

pub finish-requires-clause-proper : goal.finish-requires-clause-proper
finish-requires-clause-proper g c x e = shape_proper c.args.read.normal x c.requires (sym c.normal_shape.ensures ∙ e)
