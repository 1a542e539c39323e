use Rattle.std.proofs.Common.{ap, Err, arith}
use Rattle.formula_store.specs.Nodes.{tree}
use Rattle.redlog_printer.proofs.Bounds.{bounded}
use Rattle.redlog_printer.proofs.text.put_unfolded.Goals as goal

pub returns-in-Err-Large-clause-long : goal.returns-in-Err-Large-clause-long
returns-in-Err-Large-clause-long c = λ _.
    let large = c.in-Err-Large.ensures.large (ap Err c.in-Err-Large.field-0-is) in
    let long = bounded c.args.names.now (tree c.args.store.now c.args.id) c.requires.members in
    omega arith
