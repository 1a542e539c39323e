use Rattle.std.proofs.Common.{◌≡◌, drop}
use Rattle.theory_simplifier.specs.VariableParts.{number_from}
use Rattle.theory_simplifier.proofs.part.number_of.Given as goal

-- the number so far and the terms that are left give that of all terms
abbrev pub invariant-loop-place : goal.invariant-loop-place
invariant-loop-place l = number_from l.number (drop l.place l.form.terms) ≡ number_from l.start l.form.terms
