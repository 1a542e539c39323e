use Rattle.std.specs.Prelude.{◌≡◌, map}
use Rattle.exact_numbers.specs.Fraction.{frac_of}
use Rattle.searched_verdicts.specs.Witnesses.{lowest_from}
use Rattle.searched_verdicts.proofs.witnesses.witnesses_at.Given as goal

-- the values of the names so far
abbrev pub invariant-loop-number : goal.invariant-loop-number
invariant-loop-number l = map frac_of l.values.items ≡ lowest_from l.at 0 l.number
