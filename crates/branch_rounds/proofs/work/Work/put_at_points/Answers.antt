use Rattle.normal_atoms.specs.Atoms.{context_of}
use Rattle.elimination_theory.proofs.Tidy.{tidy_in}
use Rattle.formula_store.specs.Nodes.{tree}
use Rattle.branch_rounds.proofs.work.Work.put_at_points.Goals as goal

pub put_at_all-requires-clause-in_context : goal.put_at_all-requires-clause-in_context
put_at_all-requires-clause-in_context g c κs within = tidy_in (context_of c.args.self.now.context) (tree c.args.store.now c.args.branch) c.requires.tidy
