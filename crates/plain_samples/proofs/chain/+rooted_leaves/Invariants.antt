use Rattle.logic_meaning.specs.Sizes.{nodes}
use Rattle.nnf_trees.specs.Nnfs.{nnf_of}
use Rattle.plain_samples.proofs.chain.+rooted_leaves.Given as goal

abbrev pub decreases-rooted_leaves : goal.decreases-rooted_leaves
decreases-rooted_leaves l = nodes (nnf_of l.f.now)
