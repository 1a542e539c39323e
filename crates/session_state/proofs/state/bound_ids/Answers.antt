use Rattle.std.proofs.Common.{sym}
use Rattle.session_state.proofs.BindingLemmas.{ids_step}
use Rattle.session_state.proofs.state.bound_ids.Goals as goal

pub loop-place-preserved : goal.loop-place-preserved
loop-place-preserved c = ids_step c.args.bindings.now c.loop-place.place c.in-Some.id c.loop-place.ids.items c.push.new.self.items c.loop-place.invariant (sym c.in-Some.ensures) c.in_ok-push.ensures.items
