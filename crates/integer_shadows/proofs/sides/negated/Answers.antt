use Rattle.std.proofs.Common.{List, [], ◌∷◌, negsuc, ℤ}
use Rattle.exact_numbers.specs.Division.{DividesAll}
use Rattle.exact_numbers.proofs.Divisibility.{neg_divides, one_divides}
use Rattle.logic_meaning.specs.Terms.{coefficients}
use Rattle.integer_shadows.proofs.sides.negated.Goals as goal

minus_divides : (xs : List ℤ) → DividesAll (negsuc 0) xs
minus_divides [] = tt
minus_divides (x ∷ xs) = (neg_divides (one_divides x), minus_divides xs)

pub divide_exact-requires-clause-divides : goal.divide_exact-requires-clause-divides
divide_exact-requires-clause-divides c = minus_divides (c.args.form.now.constant ∷ coefficients c.args.form.now.terms)
