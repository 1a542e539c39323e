use Rattle.std.proofs.Common.{sym, subst}
use Rattle.formula_resolving.specs.BoundIds.{trees_bound}
use Rattle.formula_store.specs.Nodes.{tree}
use Rattle.program_meaning.specs.Causes.{HasNoRoom}
use Rattle.session_state.proofs.BindingLemmas.{no_room}
use Rattle.session_commands.proofs.formulas.bind.Goals as goal

pub unreachable-requires : goal.unreachable-requires
unreachable-requires c =
    let t = tree c.args.state.now.store in
    let full = c.in-Err-Full.ensures.full c.in-Err-Full.field-0-is in
    c.requires (subst (HasNoRoom (trees_bound t c.args.state.now.bindings)) (sym c.in-Some.is) (no_room t c.args.state.now.bindings c.in-Some.name full.0 full.1))
