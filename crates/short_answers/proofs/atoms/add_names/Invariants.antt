use Rattle.formula_laws.specs.StandsOnce.{StandsOnce}
use Rattle.branch_rounds.specs.Branches.{numbers}
use Rattle.short_answers.proofs.atoms.add_names.Given as goal

abbrev pub invariant-loop-place : goal.invariant-loop-place
invariant-loop-place l = StandsOnce (numbers l.names.items)
