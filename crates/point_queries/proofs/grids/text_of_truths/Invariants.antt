use Rattle.std.proofs.Common.{◌≡◌, ◌++◌, map, take}
use Rattle.std.specs.Prelude.{codes}
use Rattle.program_meaning.specs.Grids.{truth_digit}
use Rattle.point_queries.proofs.grids.text_of_truths.Given as goal

-- the digits of the truths so far
abbrev pub invariant-loop-truth : goal.invariant-loop-truth
invariant-loop-truth l = l.text.items ≡ codes "{" ++ map truth_digit (take l.truth-index l.truths)
