use Rattle.std.proofs.Common.{map, sym, ap, ◌∙◌}
use Rattle.std.specs.Prelude.{option_map}
use Rattle.logic_meaning.specs.Names.{place}
use Rattle.formula_store.specs.Nodes.{tree, IsId}
use Rattle.formula_resolving.specs.BoundIds.{answered_trees}
use Rattle.formula_resolving.proofs.AtomLaws.{bound_id}
use Rattle.formula_resolving.proofs.Answered.{beside}
use Rattle.formula_resolving.proofs.PartLaws.{ok_map}
use Rattle.free_names.specs.Places.{in_scope}
use Rattle.free_names.proofs.Parts.{there_among, away_among}
use Rattle.free_names.proofs.valued.in_bound.Goals as goal

pub in_made-requires-clause-id : goal.in_made-requires-clause-id
in_made-requires-clause-id c =
    bound_id (IsId c.args.around.now.store.now) (tree c.args.around.now.store.now) c.args.around.now.bound.now c.args.name.now c.in-Some.id c.requires.ids (sym c.in-Some.ensures.bound)

pub returns-in-Some-clause-among : goal.returns-in-Some-clause-among
returns-in-Some-clause-among c =
    let around = c.args.around.now in
    let t = tree around.store.now in
    let is = beside t (map t around.inner.now) around.bound.now c.args.name.now c.in-Some.ensures.short ∙ ap (option_map t) (sym c.in-Some.ensures.bound) in
    ok_map c.in_made.result
    (λ r w. there_among (answered_trees t around.inner.now around.bound.now) c.args.name.now (t c.in-Some.id) (place around.names.now) (in_scope around.valued.now c.args.opened.now) r is w)
    c.in_made.ensures.among

pub returns-in-None-clause-among : goal.returns-in-None-clause-among
returns-in-None-clause-among c =
    let around = c.args.around.now in
    let t = tree around.store.now in
    away_among (answered_trees t around.inner.now around.bound.now) c.args.name.now (place around.names.now) (in_scope around.valued.now c.args.opened.now)
    (beside t (map t around.inner.now) around.bound.now c.args.name.now c.in-None.ensures.short ∙ ap (option_map t) (sym c.in-None.ensures.bound))
