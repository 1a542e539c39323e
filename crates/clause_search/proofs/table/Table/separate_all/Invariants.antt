use Rattle.clause_search.specs.Tables.{Grows}
use Rattle.clause_search.proofs.table.Table.separate_all.Given as goal

-- the table has grown
abbrev pub invariant-loop-place : goal.invariant-loop-place
invariant-loop-place l = Grows l.places.store.now l.context l.initial.self l.self
