use Rattle.std.proofs.Common.{[], subst, arith}
use Rattle.normal_atoms.specs.Atoms.{context_of}
use Rattle.smt_resolver.specs.Values.{IsTermValue}
use Rattle.smt_resolver.proofs.FormulaLaws.{level_compared}
use Rattle.smt_resolver.proofs.formulas.comparison.Goals as goal

pub returns-clause-read : goal.returns-clause-read
returns-clause-read g c = λ s t h k.
    let d = context_of c.args.setting.now.context in let limit = c.args.setting.now.limit in
    let Q = g.M.Maker.is_id c.compared_part.new.maker in let u = g.M.Maker.tree c.compared_part.new.maker in
    let v = subst (IsTermValue d limit s) c.in-Within.is h in let w = subst (IsTermValue d limit t) c.in-Within-right.is k in
    let i = v.0 in let j = w.0 in let m = c.in-Some.ensures.0 in let n = c.in-Some-counted.ensures.0 in (
      omega (arith, i, j, m, n),
      c.in-Some-counted.ensures.1,
      level_compared d Q u Q u c.args.relation s t c.in-Within.left c.in-Within-right.right c.in_ok-difference.difference c.in_ok-read.read c.in_ok-read-2.read v.2 w.2
          (λ number. c.in_ok-difference.ensures.read d number s t) (λ number. c.in_ok-read.ensures.read [] number s t) (λ names. c.in_ok-read-2.ensures.read d [] names c.args.relation s t),
    )
