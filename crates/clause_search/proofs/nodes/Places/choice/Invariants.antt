use Rattle.std.proofs.Common.{take}
use Rattle.clause_search.specs.Nodes.{SayMembers}
use Rattle.clause_search.proofs.nodes.Places.choice.Given as goal

-- the literals say the members so far
abbrev pub invariant-loop-id : goal.invariant-loop-id
invariant-loop-id l = SayMembers l.self.store.now l.self.ids.now (take l.id-index l.ids) l.literals.items
