use Rattle.std.proofs.Common.{◌<◌, sym, length, get_or, arith}
use Rattle.formula_store.specs.declared.id.FormulaId.{FormulaId}
use Rattle.session_state.specs.Keeping.{ids_bound}
use Rattle.session_state.proofs.BindingLemmas.{names_step, list_step}
use Rattle.session_state.proofs.state.rebound.Goals as goal

pub loop-place-preserved : goal.loop-place-preserved
loop-place-preserved c =
    let old = c.loop-place.new in
    let place = c.loop-place.place in
    let first : FormulaId = record { number = 0 } in
    let more = names_step c.args.bindings.now old c.put.new.self place c.in-Some.name (get_or c.args.ids.now place first) c.len-place-end.ensures.distinct c.loop-place.invariant.names (sym c.in-Some.ensures) c.in_default-put.ensures.bound in
    let inside : place < length c.args.ids.now = omega arith in
    record { names = more.0; ids = list_step c.args.ids.now place first (ids_bound old) (ids_bound c.put.new.self) c.loop-place.invariant.ids inside more.1 }
