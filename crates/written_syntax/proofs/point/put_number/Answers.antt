use Rattle.std.proofs.Common.{rules}
use Rattle.written_syntax.proofs.point.put_number.Goals as goal

pub returns-clause-ok : goal.returns-clause-ok
returns-clause-ok c = (c.in_ok-number.number, search rules, search rules, search rules)
