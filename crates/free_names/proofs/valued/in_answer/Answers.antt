use Rattle.language_meaning.specs.Holes.{inner_name}
use Rattle.logic_meaning.specs.Names.{place}
use Rattle.formula_store.specs.Nodes.{tree, IsId}
use Rattle.formula_resolving.specs.BoundIds.{answered_trees}
use Rattle.formula_resolving.proofs.Answered.{answer_there, id_at}
use Rattle.formula_resolving.proofs.PartLaws.{ok_map}
use Rattle.free_names.specs.Places.{in_scope}
use Rattle.free_names.proofs.Parts.{there_among}
use Rattle.free_names.proofs.valued.in_answer.Goals as goal

pub in_made-requires-clause-id : goal.in_made-requires-clause-id
in_made-requires-clause-id c = id_at (IsId c.args.around.now.store.now) c.args.around.now.inner.now c.args.taken.now _ c.requires.answers c.requires.room

pub returns-clause-among : goal.returns-clause-among
returns-clause-among c =
    let around = c.args.around.now in
    let t = tree around.store.now in
    ok_map c.in_made.result
    (λ r w. there_among (answered_trees t around.inner.now around.bound.now) (inner_name c.args.taken.now) _ (place around.names.now) (in_scope around.valued.now c.args.opened.now) r (answer_there t around.inner.now around.bound.now c.args.taken.now _ c.requires.room) w)
    c.in_made.ensures.among
