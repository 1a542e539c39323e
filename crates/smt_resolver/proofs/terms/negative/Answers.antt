use Rattle.std.proofs.Common.{subst, arith}
use Rattle.smt_resolver.specs.Values.{IsTermValue}
use Rattle.smt_resolver.proofs.TermLaws.{level_negative}
use Rattle.smt_resolver.proofs.terms.negative.Goals as goal

pub returns : goal.returns
returns c = λ d t h.
    let v = subst (IsTermValue d c.args.limit t) c.in-Within.is h in let e = v.0 in let k = c.in-Some.ensures.0 in
    (omega (arith, e, k), c.in-Some.ensures.1, level_negative d t c.in-Within.read c.in_ok-read.read v.2 c.in_ok-read.ensures)
