use Rattle.clause_search.proofs.Begun.{grows_then}
use Rattle.clause_search.proofs.table.Table.bound.Goals as goal

pub returns : goal.returns
returns c = λ nodes.
    grows_then nodes c.args.context c.args.self.now c.add.new.self c.add-2.new.self (c.in_ok-add.ensures.grown nodes) (c.in_ok-add-2.ensures.grown nodes)
