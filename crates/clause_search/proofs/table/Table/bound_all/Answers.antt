use Rattle.clause_search.proofs.Begun.{no_growth, grows_then}
use Rattle.clause_search.proofs.table.Table.bound_all.Goals as goal

pub loop-id-init : goal.loop-id-init
loop-id-init c = no_growth c.args.places.now.store.now c.args.context c.args.self.now

pub loop-id-preserved : goal.loop-id-preserved
loop-id-preserved c = grows_then c.args.places.now.store.now c.args.context c.args.self.now c.loop-id.self c.bound.new.self c.loop-id.invariant (c.in_ok-bound.ensures c.args.places.now.store.now)
