use Rattle.std.proofs.Common.{map, sym, ap, ◌∙◌}
use Rattle.std.specs.Prelude.{option_map}
use Rattle.formula_store.specs.Nodes.{tree, IsId}
use Rattle.formula_resolving.specs.BoundIds.{answered_trees}
use Rattle.formula_resolving.proofs.AtomLaws.{bound_id}
use Rattle.formula_resolving.proofs.Answered.{beside}
use Rattle.free_names.proofs.Parts.{there_quantified, away_quantified}
use Rattle.free_names.proofs.quantified.in_name.Goals as goal

pub facts-requires : goal.facts-requires
facts-requires c = bound_id (IsId c.args.store.now) (tree c.args.store.now) c.args.bound.now c.args.name.now c.in-Some.id c.requires (sym c.in-Some.ensures.bound)

pub returns-in-Some : goal.returns-in-Some
returns-in-Some c = λ inner.
    let t = tree c.args.store.now in
    there_quantified (answered_trees t inner c.args.bound.now) c.args.name.now (t c.in-Some.id) c.facts.result.quantified
    (beside t (map t inner) c.args.bound.now c.args.name.now c.in-Some.ensures.short ∙ ap (option_map t) (sym c.in-Some.ensures.bound)) c.facts.ensures.facts.quantified_is

pub returns-in-None : goal.returns-in-None
returns-in-None c = λ inner.
    let t = tree c.args.store.now in
    away_quantified (answered_trees t inner c.args.bound.now) c.args.name.now (beside t (map t inner) c.args.bound.now c.args.name.now c.in-None.ensures.short ∙ ap (option_map t) (sym c.in-None.ensures.bound))
