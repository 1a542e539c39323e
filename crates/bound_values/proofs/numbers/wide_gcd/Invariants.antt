use Rattle.bound_values.proofs.numbers.wide_gcd.Given as goal

abbrev pub decreases-loop-right : goal.decreases-loop-right
decreases-loop-right l = l.right
