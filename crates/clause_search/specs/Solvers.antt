-- What holds of a solver.
use Rattle.clause_search.specs.declared.solver.Solver.{Solver}
use Rattle.clause_search.specs.declared.solver.Turn.{Turn}
use Rattle.clause_search.specs.declared.solver.Turn.TheVariants.{Further, Nowhere, Candidate, Nothing}
use Rattle.clause_search.specs.Soundness.{Question, AreSound, IsUnmet}

-- it works in the question's theory, and its clauses hold wherever the question's formula is true
abbrev pub IsSound : Question → Solver → Type 0
IsSound q s = AreSound q s.context s.table.variables.items s.table.clauses.items

-- what a step says of the question
abbrev pub IsTold : Question → Turn → Type 0
IsTold q Further = Unit {0}
IsTold q Nowhere = IsUnmet q
IsTold q (Candidate values) = Unit {0}
IsTold q Nothing = Unit {0}
