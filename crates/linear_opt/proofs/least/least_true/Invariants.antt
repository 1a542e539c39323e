use Rattle.std.specs.Prelude.{option_map}
use Rattle.exact_numbers.specs.Fraction.{frac_of}
use Rattle.linear_opt.proofs.Listed.{IsFoundAfter}
use Rattle.linear_opt.proofs.least.least_true.Given as goal

abbrev pub invariant-loop-id : goal.invariant-loop-id
invariant-loop-id l = IsFoundAfter l.formula.store.now l.formula.root l.formula.ids.now l.z.number l.id-index (option_map frac_of l.least)
