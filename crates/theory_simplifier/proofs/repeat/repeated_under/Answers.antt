use Rattle.normal_atoms.specs.Atoms.{context_of}
use Rattle.theory_simplifier.proofs.repeat.repeated_under.Goals as goal

pub repeated-requires-clause-known : goal.repeated-requires-clause-known
repeated-requires-clause-known c = c.in_ok-known.ensures.normal (context_of c.args.context) c.requires.theory
