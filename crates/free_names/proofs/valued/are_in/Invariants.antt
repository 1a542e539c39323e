use Rattle.std.proofs.Common.{ℕ, drop}
use Rattle.std.specs.Ordering.{nat_cmp}
use Rattle.std.specs.BTreeSet.{contains}
use Rattle.free_names.specs.Scopes.{IsIn}
use Rattle.free_names.proofs.Search.{SearchedTo}
use Rattle.free_names.proofs.valued.are_in.Given as goal

abbrev pub invariant-loop-number : goal.invariant-loop-number
invariant-loop-number l = SearchedTo (λ (n : ℕ). IsIn n l.numbers) (λ (n : ℕ). IsIn n (drop l.number-index l.numbers)) (contains nat_cmp l.opened)
