use Rattle.std.proofs.Common.{◌≡◌, take}
use Rattle.std.specs.List.{fold}
use Rattle.logic_meaning.specs.Names.{with_name}
use Rattle.formula_resolving.specs.Numbering.{Grows}
use Rattle.program_meaning.specs.Grids.{lows}
use Rattle.point_queries.specs.Asked.{entry_names}
use Rattle.point_queries.proofs.grids.number_axes.Given as goal

-- the names of the axes so far are numbered
abbrev pub invariant-loop-axis : goal.invariant-loop-axis
invariant-loop-axis l = record {
  numbered : l.names ≡ fold with_name l.fn.names (entry_names (lows (take l.axis-index l.axes)));
  grown : Grows l.fn.names l.names;
}
