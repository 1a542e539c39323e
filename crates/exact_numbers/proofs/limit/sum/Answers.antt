use Rattle.std.proofs.Common.{◌≡◌, MatchOption, rules, ◌+ℤ◌}
use Rattle.exact_numbers.specs.Limit.{InLimit, PastLimit}
use Rattle.exact_numbers.proofs.Limits.{checked_by}
use Rattle.exact_numbers.proofs.limit.sum.Goals as goal

pub returns : goal.returns
returns c =
    let z = c.args.a +ℤ c.args.b in
    let v : MatchOption c.filter.result (PastLimit z) (λ n. (n ≡ z) × InLimit n) = search rules in
    record { value = v; rule = checked_by c.filter.result z v }
