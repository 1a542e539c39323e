use Rattle.std.proofs.Common.{subst}
use Rattle.smt_resolver.specs.Values.{IsTermValue}
use Rattle.smt_resolver.proofs.TermLaws.{level_copy}
use Rattle.smt_resolver.proofs.terms.copied.Goals as goal

pub returns-in_ok-copy-in-Within : goal.returns-in_ok-copy-in-Within
returns-in_ok-copy-in-Within c = λ d limit t h. let v = subst (IsTermValue d limit t) c.in-Within.is h in (v.0, v.1, level_copy d t c.in-Within.read c.in_ok-copy-in-Within.field-0 (c.in_ok-copy-in-Within.ensures d) v.2)
