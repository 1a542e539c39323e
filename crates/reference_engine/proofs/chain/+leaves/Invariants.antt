use Rattle.logic_meaning.specs.Sizes.{nodes}
use Rattle.nnf_trees.specs.Nnfs.{nnf_of}
use Rattle.reference_engine.proofs.chain.+leaves.Given as goal

abbrev pub decreases-leaves : goal.decreases-leaves
decreases-leaves l = nodes (nnf_of l.f.now)
