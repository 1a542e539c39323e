use Rattle.language_meaning.specs.Holes.{inner_name}
use Rattle.formula_store.specs.Nodes.{tree, IsId}
use Rattle.formula_resolving.specs.BoundIds.{answered_trees}
use Rattle.formula_resolving.proofs.Answered.{answer_there, id_at}
use Rattle.free_names.proofs.Parts.{there_quantified}
use Rattle.free_names.proofs.quantified.in_answer.Goals as goal

pub facts-requires : goal.facts-requires
facts-requires c = id_at (IsId c.args.store.now) c.args.inner.now c.args.taken.now _ c.requires.answers c.requires.room

pub returns-clause-found : goal.returns-clause-found
returns-clause-found c = λ bound.
    let t = tree c.args.store.now in
    there_quantified (answered_trees t c.args.inner.now bound) (inner_name c.args.taken.now) _ c.facts.result.quantified (answer_there t c.args.inner.now bound c.args.taken.now _ c.requires.room) c.facts.ensures.facts.quantified_is
