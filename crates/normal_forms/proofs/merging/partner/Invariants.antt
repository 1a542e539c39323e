use Rattle.std.proofs.Common.{take}
use Rattle.std.specs.List.{AllByRecursion}
use Rattle.normal_atoms.specs.Atoms.{context_of}
use Rattle.normal_forms.proofs.Partners.{Keeps}
use Rattle.normal_forms.proofs.merging.partner.Given as goal

abbrev pub invariant-loop-place : goal.invariant-loop-place
invariant-loop-place l = AllByRecursion (Keeps (context_of l.context) l.inner l.store l.atom) (take l.place l.line)
