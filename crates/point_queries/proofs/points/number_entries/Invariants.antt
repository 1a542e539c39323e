use Rattle.std.proofs.Common.{◌≡◌, take}
use Rattle.std.specs.List.{fold}
use Rattle.logic_meaning.specs.Names.{with_name}
use Rattle.formula_resolving.specs.Numbering.{Grows}
use Rattle.point_queries.specs.Asked.{entry_names}
use Rattle.point_queries.proofs.points.number_entries.Given as goal

-- the names of the entries so far are numbered
abbrev pub invariant-loop-entry : goal.invariant-loop-entry
invariant-loop-entry l = record {
  numbered : l.names ≡ fold with_name l.fn.names (entry_names (take l.entry-index l.entries));
  grown : Grows l.fn.names l.names;
}
