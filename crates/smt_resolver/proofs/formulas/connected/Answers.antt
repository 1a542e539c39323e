use Rattle.std.proofs.Common.{[], subst, arith}
use Rattle.smt_resolver.specs.Values.{IsFormulaValue}
use Rattle.smt_resolver.proofs.FormulaLaws.{level_paired, paired_nodes}
use Rattle.smt_resolver.proofs.formulas.connected.Goals as goal

pub returns-clause-read : goal.returns-clause-read
returns-clause-read g c = λ d f e h k.
    let P = g.M.Maker.is_id c.args.maker.now in let t = g.M.Maker.tree c.args.maker.now in
    let Q = g.M.Maker.is_id c.paired_part.new.maker in let u = g.M.Maker.tree c.paired_part.new.maker in
    let v = subst (IsFormulaValue d c.args.limit P t f) c.in-Within.is h in let w = subst (IsFormulaValue d c.args.limit P t e) c.in-Within-right.is k in
    let i = v.0 in let j = w.0 in let m = c.in-Some.ensures.0 in let n = c.in-Some-counted.ensures.0 in let o = paired_nodes c.args.pair f e in
    (omega (arith, i, j, m, n, o), c.in-Some-counted.ensures.1, level_paired d P t Q u c.args.pair f e c.in-Within.left c.in-Within-right.right c.in_ok-read.read v.2 w.2 (λ names. c.in_ok-read.ensures.read d [] names f e))
