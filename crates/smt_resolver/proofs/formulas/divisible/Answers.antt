use Rattle.std.proofs.Common.{[], subst, arith}
use Rattle.normal_atoms.specs.Atoms.{context_of}
use Rattle.smt_resolver.specs.Values.{IsTermValue}
use Rattle.smt_resolver.proofs.FormulaLaws.{level_divides}
use Rattle.smt_resolver.proofs.formulas.divisible.Goals as goal

pub returns-clause-read : goal.returns-clause-read
returns-clause-read g c = λ s h.
    let d = context_of c.args.setting.now.context in let limit = c.args.setting.now.limit in
    let Q = g.M.Maker.is_id c.congruent_part.new.maker in let u = g.M.Maker.tree c.congruent_part.new.maker in
    let v = subst (IsTermValue d limit s) c.in-Within.is h in
    let i = v.0 in let m = c.in-Some.ensures.0 in (
      omega (arith, i, m),
      c.in-Some.ensures.1,
      level_divides d Q u Q u c.args.divisor s c.in-Within.term c.literal-zero.result c.in_ok-difference.difference c.literal-modulus.result c.in_ok-read.read c.in_ok-read-2.read v.2
          (c.literal-zero.ensures d) (c.literal-modulus.ensures d) (c.in_ok-difference.ensures.read d) (c.in_ok-read.ensures.read []) (c.in_ok-read-2.ensures.read []),
    )
