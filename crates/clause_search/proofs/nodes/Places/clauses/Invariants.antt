use Rattle.clause_search.specs.Nodes.{AreNodeLaws}
use Rattle.clause_search.proofs.nodes.Places.clauses.Given as goal

-- the clauses so far are laws
abbrev pub invariant-loop-place : goal.invariant-loop-place
invariant-loop-place l = AreNodeLaws l.self.store.now l.self.ids.now l.clauses.items
