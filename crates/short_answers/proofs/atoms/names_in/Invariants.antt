use Rattle.formula_laws.specs.StandsOnce.{StandsOnce}
use Rattle.branch_rounds.specs.Branches.{numbers}
use Rattle.short_answers.proofs.atoms.names_in.Given as goal

abbrev pub invariant-loop-atom : goal.invariant-loop-atom
invariant-loop-atom l = StandsOnce (numbers l.names.items)

abbrev pub invariant-loop-atom-2 : goal.invariant-loop-atom-2
invariant-loop-atom-2 l = StandsOnce (numbers l.names.items)
