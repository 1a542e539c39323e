use Rattle.std.proofs.Common.{◌≡◌, ◌++◌, [], map, drop}
use Rattle.exact_numbers.specs.Frac.{whole_frac}
use Rattle.logic_meaning.specs.AnswerTexts.{separated}
use Rattle.logic_meaning.specs.PointTexts.{fraction_text}
use Rattle.constraint_queries.proofs.lines.put_numbers.Given as goal

-- what is written and what is left is the whole text
abbrev pub invariant-loop-number : goal.invariant-loop-number
invariant-loop-number l = l.out ++ separated l.before (map (λ m. fraction_text (whole_frac m)) (drop l.number-index l.numbers)) ≡ l.fn.out ++ separated [] (map (λ m. fraction_text (whole_frac m)) l.numbers)
