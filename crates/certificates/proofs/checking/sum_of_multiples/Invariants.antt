use Rattle.std.proofs.Common.{map}
use Rattle.std.specs.Iterator.Adapters.{zip_first, zip_second}
use Rattle.std.specs.Slice.Iter.{iter_rest}
use Rattle.certificates.specs.Constraints.{constraint_of}
use Rattle.certificates.proofs.Running.{IsRunning}
use Rattle.certificates.proofs.checking.sum_of_multiples.Given as goal

-- what is left of the two slices
abbrev pub invariant-loop-constraint : goal.invariant-loop-constraint
invariant-loop-constraint l = IsRunning (map constraint_of l.constraints) l.multipliers l.sum (map constraint_of (iter_rest (zip_first l.constraint-iterator))) (iter_rest (zip_second l.constraint-iterator))
