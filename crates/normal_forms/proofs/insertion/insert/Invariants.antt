use Rattle.std.proofs.Common.{vec_len}
use Rattle.normal_atoms.specs.Atoms.{context_of}
use Rattle.normal_forms.proofs.Inserted.{Puts}
use Rattle.normal_forms.proofs.insertion.insert.Given as goal

abbrev pub invariant-loop-line : goal.invariant-loop-line
invariant-loop-line l = Puts (context_of l.context) l.inner l.initial.store l.store l.initial.line.items l.line.items l.initial.atom l.atom

abbrev pub decreases-loop-line : goal.decreases-loop-line
decreases-loop-line l = vec_len l.line
