use Rattle.std.proofs.Common.{sym, ap, ◌∙◌}
use Rattle.std.specs.Prelude.{option_map}
use Rattle.language_meaning.specs.Answers.{with_inner}
use Rattle.formula_resolving.specs.BoundIds.{trees_bound}
use Rattle.formula_resolving.proofs.AtomLaws.{bound_id, name_away}
use Rattle.formula_resolving.proofs.Answered.{beside}
use Rattle.formula_resolving.proofs.parts.name_part.Goals as goal

pub made_part-requires : goal.made_part-requires
made_part-requires g c = bound_id (g.M.Maker.is_id c.args.maker.now) (g.M.Maker.tree c.args.maker.now) c.args.bound.now c.args.name.now c.in-Some.id c.requires (sym c.in-Some.ensures.bound)

pub returns-in-Some : goal.returns-in-Some
returns-in-Some g c = λ answers.
    let tree = g.M.Maker.tree c.args.maker.now in
    c.made_part.ensures (with_inner answers (trees_bound tree c.args.bound.now)) c.args.name.now
    (beside tree answers c.args.bound.now c.args.name.now c.in-Some.ensures.short ∙ ap (option_map tree) (sym c.in-Some.ensures.bound))

pub returns-in-None : goal.returns-in-None
returns-in-None g c = λ answers d names.
    let tree = g.M.Maker.tree c.args.maker.now in
    name_away (g.M.Maker.is_id c.args.maker.now) tree (with_inner answers (trees_bound tree c.args.bound.now)) c.args.name.now d names c.nothing_bound.result
    (beside tree answers c.args.bound.now c.args.name.now c.in-None.ensures.short ∙ ap (option_map tree) (sym c.in-None.ensures.bound)) c.nothing_bound.ensures
