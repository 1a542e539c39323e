use Rattle.std.proofs.lemmas.Result.{IfOk-weaker}
use Rattle.written_syntax.specs.CodeTrees.{term_tree}
use Rattle.logic_meaning.specs.Names.{place}
use Rattle.written_atoms.proofs.read.read_congruence.Goals as goal

pub returns : goal.returns
returns c =
    IfOk-weaker c.congruence_of.result _ _
    (λ r h bound. h bound (place c.args.names.now) (term_tree c.args.left.now) (term_tree c.args.right.now) (term_tree c.args.modulus.now) c.in_ok-difference.ensures.read c.in_ok-modulus.ensures) c.congruence_of.ensures.read
