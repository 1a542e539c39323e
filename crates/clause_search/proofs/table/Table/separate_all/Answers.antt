use Rattle.clause_search.proofs.Begun.{no_growth, grows_then, nodes_still}
use Rattle.clause_search.proofs.table.Table.separate_all.Goals as goal

pub loop-place-init : goal.loop-place-init
loop-place-init c = no_growth c.args.places.now.store.now c.args.context c.args.self.now

pub separate-requires-clause-nodes : goal.separate-requires-clause-nodes
separate-requires-clause-nodes c = nodes_still c.args.places.now.store.now c.args.places.now.ids.now c.args.self.now.variables.items c.loop-place.self.variables.items c.loop-place.invariant.kept c.requires.nodes

pub loop-place-preserved : goal.loop-place-preserved
loop-place-preserved c = grows_then c.args.places.now.store.now c.args.context c.args.self.now c.loop-place.self c.separate.new.self c.loop-place.invariant c.in_ok-separate.ensures
