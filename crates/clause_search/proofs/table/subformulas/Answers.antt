use Rattle.clause_search.proofs.Begun.{subformula_ids}
use Rattle.clause_search.proofs.table.subformulas.Goals as goal

pub returns-in-Ok : goal.returns-in-Ok
returns-in-Ok c = subformula_ids c.args.store.now c.args.root c.in-Ok.ids.items c.requires c.in-Ok.ensures.order
