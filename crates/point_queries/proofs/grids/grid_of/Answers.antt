use Rattle.std.proofs.Common.{Err, List, inl, inr, ⊎_elim, sym, ap, subst}
use Rattle.std.proofs.lemmas.Result.{err_from_is_err_and}
use Rattle.logic_meaning.specs.Names.{place}
use Rattle.normal_atoms.specs.Atoms.{context_of}
use Rattle.program_meaning.specs.declared.axis.Axis.{Axis}
use Rattle.program_meaning.specs.Grids.{lows, AreAxes}
use Rattle.point_queries.proofs.AxisLemmas.{meant_divided, some_past, no_name_twice, all_distinct, all_rising}
use Rattle.point_queries.proofs.GridLemmas.{meant_grid, too_many}
use Rattle.point_queries.proofs.grids.grid_of.Goals as goal

pub axes_of-requires-clause-divided : goal.axes_of-requires-clause-divided
axes_of-requires-clause-divided c = meant_divided (context_of c.args.state.now.context) c.args.axes.now c.requires.meant

pub returns-in_err-axes-clause-stopped : goal.returns-in_err-axes-clause-stopped
returns-in_err-axes-clause-stopped c =
    let p = err_from_is_err_and c.from_residual.result c.from_residual.ensures.1 in
    rw (p.1, p.2) (⊎_elim (λ h. inl (h.0, inl (some_past c.args.axes.now h.1))) (λ h. inr (inr h)) c.in_err-axes.ensures.stopped)

pub of-requires-clause-names : goal.of-requires-clause-names
of-requires-clause-names c =
    let names = c.args.state.now.names in
    all_distinct names c.args.axes.now c.deref.result.now c.requires.numbered (subst (λ (xs : List Axis). AreAxes (place names) c.args.axes.now xs) (sym c.deref.ensures.value) c.in_ok-axes.ensures.axes)
    (no_name_twice (context_of c.args.state.now.context) (lows c.args.axes.now) (λ h. c.requires.meant (inl h)))

pub of-requires-clause-rising : goal.of-requires-clause-rising
of-requires-clause-rising c =
    let names = c.args.state.now.names in
    all_rising (place names) c.args.axes.now c.deref.result.now (subst (λ (xs : List Axis). AreAxes (place names) c.args.axes.now xs) (sym c.deref.ensures.value) c.in_ok-axes.ensures.axes) (λ h. c.requires.meant (inr (inr (inr h))))

pub returns-in-Ok-clause-grid : goal.returns-in-Ok-clause-grid
returns-in-Ok-clause-grid c =
    let names = c.args.state.now.names in
    meant_grid (place names) c.args.axes.now c.deref.result.now (subst (λ (xs : List Axis). AreAxes (place names) c.args.axes.now xs) (sym c.deref.ensures.value) c.in_ok-axes.ensures.axes) c.in-Ok.grid c.in-Ok.ensures.grid c.in-Ok.ensures.fits c.in-Ok.ensures.few

pub returns-in-Err-Points-clause-stopped : goal.returns-in-Err-Points-clause-stopped
returns-in-Err-Points-clause-stopped c =
    let names = c.args.state.now.names in
    too_many (place names) c.args.axes.now c.deref.result.now (subst (λ (xs : List Axis). AreAxes (place names) c.args.axes.now xs) (sym c.deref.ensures.value) c.in_ok-axes.ensures.axes) (c.in-Err-Points.ensures.points (ap Err c.in-Err-Points.field-0-is))
