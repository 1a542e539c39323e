use Rattle.logic_meaning.specs.Some.{SomeOf}
use Rattle.normal_forms.specs.Paths.{CanGoOn}
use Rattle.normal_forms.proofs.paths.Paths.within.Given as goal

abbrev pub invariant-loop : goal.invariant-loop
invariant-loop l = CanGoOn l.self l.atoms (record { place = 0; from = 0 }) → SomeOf (CanGoOn l.self l.atoms) l.waiting.items
