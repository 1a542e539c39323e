use Rattle.std.proofs.Common.{◌≡◌, drop}
use Rattle.theory_simplifier.specs.Unchanged.{key_from}
use Rattle.theory_simplifier.proofs.unchanged.key_of.Given as goal

-- the number so far and the names that are left give that of all names
abbrev pub invariant-loop-place : goal.invariant-loop-place
invariant-loop-place l = key_from l.key (drop l.place l.form.terms) ≡ key_from 0 l.form.terms
