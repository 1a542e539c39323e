use Rattle.std.proofs.Common.{◌∙◌, arith}
use Rattle.constraint_queries.proofs.PlainFormulas.{and_tree, and_plain}
use Rattle.constraint_queries.proofs.ProblemSteps.{conjoined}
use Rattle.constraint_queries.proofs.problem.together.Goals as goal

pub returns-then-len-gt1-clause-tree : goal.returns-then-len-gt1-clause-tree
returns-then-len-gt1-clause-tree c f fs e =
    and_tree c.of.result c.args.members.items c.of.ensures ∙ conjoined f fs c.args.members.items (omega arith) e

pub returns-then-len-gt1-clause-plain : goal.returns-then-len-gt1-clause-plain
returns-then-len-gt1-clause-plain c = and_plain c.of.result c.args.members.items c.of.ensures c.requires.plain
