use Rattle.simplex_optimum.proofs.numbers.gcd.Given as goal

abbrev pub decreases-loop-right : goal.decreases-loop-right
decreases-loop-right l = l.right
