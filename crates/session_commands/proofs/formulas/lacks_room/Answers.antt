use Rattle.std.proofs.Common.{sym, subst}
use Rattle.formula_resolving.specs.BoundIds.{trees_bound}
use Rattle.formula_store.specs.Nodes.{tree}
use Rattle.program_meaning.specs.Causes.{HasNoRoom}
use Rattle.session_state.proofs.BindingLemmas.{no_room, room_here}
use Rattle.session_commands.proofs.RoomLemmas.{told_along}
use Rattle.session_commands.proofs.formulas.lacks_room.Goals as goal

pub returns-in-Some : goal.returns-in-Some
returns-in-Some c =
    let trees = tree c.args.state.now.store in
    let bindings = c.args.state.now.bindings in
    told_along c.is_full_without.result (λ full. subst (HasNoRoom (trees_bound trees bindings)) (sym c.in-Some.is) (no_room trees bindings c.in-Some.name full.0 full.1))
    (λ r. room_here trees bindings c.in-Some.name (subst (HasNoRoom (trees_bound trees bindings)) c.in-Some.is r)) c.is_full_without.ensures
