-- Values of names at numbers over one denominator.
use Rattle.std.specs.Prelude.{ℕ, zero, suc, List, [], ◌∷◌}
use Rattle.exact_numbers.specs.Frac.{Frac, lowest}
use Rattle.formula_tree.specs.FromLinearForms.{Numbers, number_at}

-- those of so many names, which are numbered from n on, in lowest terms
abbrev pub lowest_from : Numbers → ℕ → ℕ → List Frac
lowest_from at n zero = []
lowest_from at n (suc count) = lowest (number_at at n) at.denominator ∷ lowest_from at (suc n) count
