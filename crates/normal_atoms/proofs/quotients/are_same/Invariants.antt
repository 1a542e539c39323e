use Rattle.normal_atoms.proofs.Places.{IsSameBefore}
use Rattle.normal_atoms.proofs.quotients.are_same.Given as goal

-- the lists have the same quotients exactly where they have from the place on
abbrev pub invariant-loop-place : goal.invariant-loop-place
invariant-loop-place l = IsSameBefore l.divisor l.form.terms l.other_divisor l.other.terms l.place
