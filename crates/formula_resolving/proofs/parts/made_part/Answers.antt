use Rattle.std.proofs.Common.{ap, ◌∙◌}
use Rattle.formula_resolving.specs.Heights.{told}
use Rattle.formula_resolving.proofs.AtomLaws.{name_there}
use Rattle.formula_resolving.proofs.parts.made_part.Goals as goal

pub returns : goal.returns
returns g c = λ bound x t d names.
    name_there (g.M.Maker.is_id c.args.maker.now) (g.M.Maker.tree c.args.maker.now) bound x d names c.args.id c.none.result c.told.result c.requires t c.none.ensures
    (c.told.ensures ∙ ap told c.height.ensures)
