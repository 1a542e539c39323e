use Rattle.logic_meaning.specs.Some.{EachOf}
use Rattle.normal_atoms.specs.Atoms.{IsWellFormed}
use Rattle.short_answers.proofs.atoms.add_atoms.Given as goal

abbrev pub invariant-loop-id : goal.invariant-loop-id
invariant-loop-id l = EachOf IsWellFormed l.atoms.items
