use Rattle.std.proofs.Common.{[], subst, arith}
use Rattle.smt_language.specs.Levels.{level}
use Rattle.smt_resolver.specs.Values.{IsFormulaValue}
use Rattle.smt_resolver.proofs.FormulaLaws.{level_quantified, quantified_nodes}
use Rattle.smt_resolver.proofs.formulas.quantified.Goals as goal

pub returns-clause-read : goal.returns-clause-read
returns-clause-read g c = λ d f h.
    let P = g.M.Maker.is_id c.args.maker.now in let t = g.M.Maker.tree c.args.maker.now in
    let Q = g.M.Maker.is_id c.quantified_part.new.maker in let u = g.M.Maker.tree c.quantified_part.new.maker in
    let v = subst (IsFormulaValue d c.args.limit P t f) c.in-Within.is h in
    let i = v.0 in let m = c.in-Some.ensures.0 in let o = quantified_nodes c.args.quantifier c.args.number f in
    (omega (arith, i, m, o), c.in-Some.ensures.1, level_quantified d P t Q u c.args.quantifier c.args.number f c.in-Within.read c.in_ok-read.read v.2 (λ names. c.in_ok-read.ensures.read d [] names (level c.args.number) f))
