use Rattle.formula_resolving.specs.BoundIds.{answered_trees}
use Rattle.language_meaning.specs.Holes.{inner_name}
use Rattle.formula_resolving.proofs.Answered.{answer_there, id_at}
use Rattle.formula_resolving.proofs.reading.answer_part.Goals as goal

pub made_part-requires : goal.made_part-requires
made_part-requires g c = id_at (g.M.Maker.is_id c.args.maker.now) c.args.scope.now.inner.now c.args.taken.now _ c.requires.answers c.requires.room

pub returns-clause-read : goal.returns-clause-read
returns-clause-read g c =
    let tree = g.M.Maker.tree c.args.maker.now in
    c.made_part.ensures (answered_trees tree c.args.scope.now.inner.now c.args.scope.now.bound.now) (inner_name c.args.taken.now)
    (answer_there tree c.args.scope.now.inner.now c.args.scope.now.bound.now c.args.taken.now _ c.requires.room)
