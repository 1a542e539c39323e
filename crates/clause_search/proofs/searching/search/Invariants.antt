use Rattle.clause_search.specs.Solvers.{IsSound}
use Rattle.clause_search.specs.Soundness.{question_of}
use Rattle.clause_search.proofs.searching.search.Given as goal

-- the solver's clauses hold wherever the formula is true
abbrev pub invariant-loop : goal.invariant-loop
invariant-loop l = IsSound (question_of l.context l.store l.root) l.solver
