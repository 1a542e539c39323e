use Rattle.std.proofs.Common.{[], subst, arith}
use Rattle.smt_resolver.specs.Values.{IsFormulaValue}
use Rattle.smt_resolver.proofs.FormulaLaws.{level_negated}
use Rattle.smt_resolver.proofs.formulas.negated.Goals as goal

pub returns-clause-read : goal.returns-clause-read
returns-clause-read g c = λ d f h.
    let P = g.M.Maker.is_id c.args.maker.now in let t = g.M.Maker.tree c.args.maker.now in
    let Q = g.M.Maker.is_id c.negated_part.new.maker in let u = g.M.Maker.tree c.negated_part.new.maker in
    let v = subst (IsFormulaValue d c.args.limit P t f) c.in-Within.is h in
    let i = v.0 in let m = c.in-Some.ensures.0 in
    (omega (arith, i, m), c.in-Some.ensures.1, level_negated d P t Q u f c.in-Within.read c.in_ok-read.read v.2 (λ names. c.in_ok-read.ensures.read d [] names f))
