use Rattle.std.proofs.Common.{◌≡◌, ◌++◌, map, drop}
use Rattle.exact_numbers.specs.Fraction.{frac_of}
use Rattle.program_meaning.specs.Texts.{spaced}
use Rattle.smtlib_front.specs.Pairs.{AreDeclared, pair_texts}
use Rattle.smtlib_front.proofs.Spacing.{following}
use Rattle.smtlib_front.proofs.smt_texts_values.put_pairs.Given as goal

-- what is written and what is left is the whole text
abbrev pub invariant-loop-symbol : goal.invariant-loop-symbol
invariant-loop-symbol l = record {
  left : l.out ++ following l.before (pair_texts l.declared (map frac_of l.values) (drop l.symbol-index l.asked)) ≡ l.fn.out ++ spaced (pair_texts l.declared (map frac_of l.values) l.asked);
  known : AreDeclared l.declared (drop l.symbol-index l.asked);
}
