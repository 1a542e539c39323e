use Rattle.std.proofs.Common.{take}
use Rattle.normal_atoms.specs.Atoms.{context_of}
use Rattle.branch_pruning.specs.Compared.{AreConjunctionsOf}
use Rattle.branch_pruning.proofs.covering.conjunctions_of.Given as goal

abbrev pub invariant-loop-id : goal.invariant-loop-id
invariant-loop-id l = AreConjunctionsOf (context_of l.context) l.store (take l.id-index l.formulas) l.conjunctions.items
