use Rattle.clause_search.specs.Tables.{Grows}
use Rattle.clause_search.proofs.table.Table.bound_all.Given as goal

-- the table has grown
abbrev pub invariant-loop-id : goal.invariant-loop-id
invariant-loop-id l = Grows l.places.store.now l.context l.initial.self l.self
