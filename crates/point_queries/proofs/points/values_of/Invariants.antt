use Rattle.std.proofs.Common.{◌≡◌, take, drop}
use Rattle.std.specs.List.{AllByRecursion}
use Rattle.linear_forms.specs.Values.{number_at}
use Rattle.language_meaning.specs.declared.entries.PointEntry.{PointEntry}
use Rattle.written_syntax.specs.PointNumbers.{point_of}
use Rattle.written_syntax.specs.Valued.{IsIn}
use Rattle.point_queries.proofs.PointLemmas.{ArePut}
use Rattle.point_queries.proofs.points.values_of.Given as goal

-- the numbers of the entries so far are put in
abbrev pub invariant-loop-entry : goal.invariant-loop-entry
invariant-loop-entry l = record {
  put : ArePut l.names (point_of l.point) (take l.entry-index l.entries) (number_at l.values);
  rest : AllByRecursion (λ (e : PointEntry). IsIn e.name l.names) (drop l.entry-index l.entries);
  below : l.values.denominator ≡ l.point.denominator;
}
