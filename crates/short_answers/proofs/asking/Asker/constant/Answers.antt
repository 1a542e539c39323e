use Rattle.normal_atoms.specs.Atoms.{context_of}
use Rattle.case_theory.proofs.Simplified.{plain_free}
use Rattle.formula_store.specs.Nodes.{tree}
use Rattle.short_answers.proofs.asking.Asker.constant.Goals as goal

pub looked-requires-clause-free : goal.looked-requires-clause-free
looked-requires-clause-free g c = plain_free (context_of c.args.self.now.work.now.context) (tree c.args.store.now c.args.id) c.requires.id.tidy.is_plain
