use Rattle.std.proofs.Common.{sym, ◌∙◌}
use Rattle.smt_reader.proofs.Opened.{leaf_in}
use Rattle.smt_reader.proofs.grouping.OpenGroups.leaf_put.Goals as goal

pub returns-clause-taken : goal.returns-clause-taken
returns-clause-taken c = leaf_in c.args.token c.args.self c.in-Some.leaf c.push.new.self.items (sym c.of.ensures ∙ c.in-Some.is) c.in_ok-push.ensures.items
