use Rattle.normal_atoms.specs.Atoms.{context_of}
use Rattle.nnf_trees.specs.Nnfs.{nnf_of}
use Rattle.plain_samples.proofs.Rooting.{stepped_from}
use Rattle.plain_samples.proofs.chain.stepped.Goals as goal

pub returns-clause-told : goal.returns-clause-told
returns-clause-told c = λ bs h k. (c.in_ok-leaves.ensures.told bs h, stepped_from (context_of c.args.setting.context) (nnf_of c.args.rooted.root) c.args.setting.limit c.args.x.number bs c.args.cost.now k)
