use Rattle.std.proofs.Common.{subst, arith}
use Rattle.normal_atoms.specs.Atoms.{context_of}
use Rattle.smt_resolver.specs.Values.{IsTermValue}
use Rattle.smt_resolver.proofs.TermLaws.{level_quotient}
use Rattle.smt_resolver.proofs.terms.quotient.Goals as goal

pub returns : goal.returns
returns c = λ s t h k.
    let d = context_of c.args.context in
    let v = subst (IsTermValue d c.args.limit s) c.in-Within.is h in let w = subst (IsTermValue d c.args.limit t) c.in-Within-divisor.is k in
    let e = v.0 in let f = w.0 in let i = c.in-Some.ensures.0 in let j = c.in-Some-counted.ensures.0 in
    (omega (arith, e, f, i, j), c.in-Some-counted.ensures.1, level_quotient d s t c.in-Within.dividend c.in-Within-divisor.divisor c.in_ok-read.read v.2 w.2 c.in_ok-read.ensures)
