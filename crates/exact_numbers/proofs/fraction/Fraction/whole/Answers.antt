use Rattle.std.proofs.lemmas.Int.{to_z-of_z}
use Rattle.exact_numbers.proofs.FractionRule.{whole_lowest}
use Rattle.exact_numbers.proofs.fraction.Fraction.whole.Goals as goal

pub returns-clause-lowest : goal.returns-clause-lowest
returns-clause-lowest c = let f = c.ranges.number in simp to_z-of_z (whole_lowest c.args.number)
