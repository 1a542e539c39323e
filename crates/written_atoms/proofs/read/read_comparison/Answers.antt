use Rattle.std.proofs.lemmas.Result.{IfOk-weaker}
use Rattle.written_syntax.specs.CodeTrees.{term_tree}
use Rattle.logic_meaning.specs.Names.{place}
use Rattle.written_atoms.proofs.read.read_comparison.Goals as goal

pub returns : goal.returns
returns c = IfOk-weaker c.comparison_of.result _ _ (λ r h bound. h bound (place c.args.names.now) (term_tree c.args.left.now) (term_tree c.args.right.now) c.in_ok-difference.ensures.read) c.comparison_of.ensures.read
