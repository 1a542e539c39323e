use Rattle.std.proofs.Common.{[], arith}
use Rattle.smt_resolver.proofs.FormulaLaws.{level_constant, constant_nodes}
use Rattle.smt_resolver.proofs.formulas.constant.Goals as goal

pub returns-clause-read : goal.returns-clause-read
returns-clause-read g c = λ d.
    let Q = g.M.Maker.is_id c.constant_part.new.maker in let u = g.M.Maker.tree c.constant_part.new.maker in
    let e = constant_nodes c.args.junction in let k = c.in-Some.ensures.0 in
    (omega (arith, e, k), c.in-Some.ensures.1, level_constant d Q u Q u c.args.junction c.in_ok-read.read (c.in_ok-read.ensures.read d []))
