use Rattle.clause_search.specs.Nodes.{AreNodeLaws}
use Rattle.clause_search.proofs.nodes.Places.add_members.Given as goal

-- the clauses so far are laws
abbrev pub invariant-loop-id : goal.invariant-loop-id
invariant-loop-id l = AreNodeLaws l.self.store.now l.self.ids.now l.clauses.items
