use Rattle.std.proofs.Common.{◌≡◌, map, take}
use Rattle.std.specs.List.{AllByRecursion}
use Rattle.exact_numbers.specs.Frac.{IsLowest}
use Rattle.exact_numbers.specs.Fraction.{frac_of}
use Rattle.linear_forms.specs.Values.{number_of}
use Rattle.least_search.proofs.problem.Problem.values.Given as goal

-- the values so far
abbrev pub invariant-loop-name : goal.invariant-loop-name
invariant-loop-name l = record {
  names : map (λ v. v.0.number) l.values.items ≡ map number_of (take l.name-index l.self.names.items);
  lowest : AllByRecursion (λ v. IsLowest (frac_of v.1)) l.values.items;
}
