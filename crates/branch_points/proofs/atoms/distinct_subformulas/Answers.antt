use Rattle.branch_points.proofs.ListedAtoms.{listed_ids, listed_are}
use Rattle.branch_points.proofs.atoms.distinct_subformulas.Goals as goal

pub returns-in-Ok-clause-ids : goal.returns-in-Ok-clause-ids
returns-in-Ok-clause-ids c = listed_ids c.args.store.now c.args.id c.in-Ok.ids.items c.requires c.in-Ok.ensures.order

pub returns-in-Ok-clause-atoms : goal.returns-in-Ok-clause-atoms
returns-in-Ok-clause-atoms c = listed_are c.args.store.now c.args.id c.in-Ok.ids.items c.requires c.in-Ok.ensures.order
