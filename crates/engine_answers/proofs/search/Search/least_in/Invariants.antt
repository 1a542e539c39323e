use Rattle.std.proofs.Common.{drop}
use Rattle.branch_rounds.proofs.FromBranchPoints.{atoms_at}
use Rattle.engine_answers.proofs.Searching.{IsSearched}
use Rattle.engine_answers.proofs.search.Search.least_in.Given as goal

abbrev pub invariant-loop-id : goal.invariant-loop-id
invariant-loop-id l = IsSearched l.self (atoms_at l.store l.id-items) (atoms_at l.store (drop l.id-index l.id-items)) l.least
