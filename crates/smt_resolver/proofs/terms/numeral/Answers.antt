use Rattle.smt_resolver.proofs.TermLaws.{level_numeral}
use Rattle.smt_resolver.proofs.terms.numeral.Goals as goal

pub returns-in-Some : goal.returns-in-Some
returns-in-Some c = λ d. (c.in-Some.ensures.0, c.in-Some.ensures.1, level_numeral d c.args.literal c.literal.result (c.literal.ensures d))
