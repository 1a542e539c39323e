use Rattle.std.proofs.Common.{inl, refl, sym, subst₂, take, List}
use Rattle.language_meaning.specs.declared.grid.GridAxis.{GridAxis}
use Rattle.written_syntax.specs.StatementSyntaxWritable.{IsWritableAxis}
use Rattle.logic_meaning.specs.Names.{place}
use Rattle.written_syntax.proofs.EntryLists.{more_entries, all_at}
use Rattle.program_meaning.specs.declared.axis.Axis.{Axis}
use Rattle.point_grid.proofs.Lists.{some_at}
use Rattle.program_meaning.specs.Grids.{AreAxes}
use Rattle.point_queries.specs.GridSteps.{IsDivided, IsPastAxis}
use Rattle.point_queries.proofs.AxisLemmas.{one_more}
use Rattle.point_queries.proofs.grids.axes_of.Goals as goal

pub returns-in_default-clause-stopped : goal.returns-in_default-clause-stopped
returns-in_default-clause-stopped c = inl (refl, some_at IsPastAxis c.args.axes.now c.loop-axis.axis-index c.axis-item.result c.loop-axis-test.true c.axis-item.is c.in_default.ensures)

pub loop-axis-preserved : goal.loop-axis-preserved
loop-axis-preserved c =
    let i = c.loop-axis.axis-index in
    let written = c.args.axes.now in
    let more = one_more (place c.args.names.now) (take i written) c.loop-axis.numbered.items c.axis-item.result c.in-Some.axis c.loop-axis.invariant.numbered c.in-Some.ensures in
    record {
      numbered = subst₂ (λ (ws : List GridAxis) (xs : List Axis). AreAxes (place c.args.names.now) ws xs) (sym (more_entries written i c.axis-item.result c.loop-axis-test.true c.axis-item.is)) (sym c.in_default-push.ensures.items) more;
      proper = (all_at IsWritableAxis written i c.axis-item.result c.loop-axis-test.true c.axis-item.is c.loop-axis.invariant.proper).1;
      divided = (all_at IsDivided written i c.axis-item.result c.loop-axis-test.true c.axis-item.is c.loop-axis.invariant.divided).1;
    }
