use Rattle.std.proofs.Common.{drop, take}
use Rattle.std.specs.List.{AllByRecursion}
use Rattle.written_syntax.specs.StatementSyntaxWritable.{AreWritableAxes}
use Rattle.logic_meaning.specs.Names.{place}
use Rattle.program_meaning.specs.Grids.{AreAxes}
use Rattle.point_queries.specs.GridSteps.{IsDivided}
use Rattle.point_queries.proofs.grids.axes_of.Given as goal

-- the axes so far are numbered, and the others can be
abbrev pub invariant-loop-axis : goal.invariant-loop-axis
invariant-loop-axis l = record {
  numbered : AreAxes (place l.names) (take l.axis-index l.axes) l.numbered.items;
  proper : AreWritableAxes (drop l.axis-index l.axes);
  divided : AllByRecursion IsDivided (drop l.axis-index l.axes);
}
