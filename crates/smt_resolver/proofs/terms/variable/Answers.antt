use Rattle.smt_resolver.proofs.TermLaws.{level_variable}
use Rattle.smt_resolver.proofs.terms.variable.Goals as goal

pub returns : goal.returns
returns c = λ d. (c.in-Some.ensures.0, c.in-Some.ensures.1, level_variable d c.args.number c.in_ok-read.read (c.in_ok-read.ensures d))
