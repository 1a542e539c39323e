use Rattle.std.proofs.Common.{◌≡◌, ◌++◌, map, drop, All}
use Rattle.exact_numbers.specs.Limit.{InLimit}
use Rattle.logic_meaning.specs.Search.{multipliers_from}
use Rattle.certificates.specs.Constraints.{constraint_of}
use Rattle.certificates.proofs.rows.Row.multipliers.Given as goal

-- the multipliers so far and those that are left are all
abbrev pub invariant-loop-place : goal.invariant-loop-place
invariant-loop-place l = record {
  made : l.multipliers.items ++ multipliers_from l.place (map constraint_of (drop l.place l.constraints)) l.self.multipliers ≡ multipliers_from 0 (map constraint_of l.constraints) l.self.multipliers;
  within : All InLimit l.multipliers.items;
}
