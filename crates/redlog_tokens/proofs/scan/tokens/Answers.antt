use Rattle.redlog_tokens.proofs.Scanned.{bad_comes}
use Rattle.redlog_tokens.proofs.scan.tokens.Goals as goal

pub returns-in_default-kind-clause-lexical : goal.returns-in_default-kind-clause-lexical
returns-in_default-kind-clause-lexical c =
    bad_comes c.args.bytes.now c.tokens.from c.in-Some.lexeme.end c.tokens.list.items c.in-Some.lexeme c.in_default-kind.is c.tokens.invariant.1 c.in-Some.ensures.3
