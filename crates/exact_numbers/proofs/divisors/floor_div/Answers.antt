use Rattle.std.proofs.Common.{◌≡◌, rules, subst, sym, to_z, of_z, ℤ}
use Rattle.std.specs.Int.{w128}
use Rattle.exact_numbers.specs.Divides.{floor_of}
use Rattle.exact_numbers.specs.Division.{IsFloor}
use Rattle.exact_numbers.proofs.Floor.{floor_is}
use Rattle.exact_numbers.proofs.divisors.floor_div.Goals as goal

pub returns-clause-rounded : goal.returns-clause-rounded
returns-clause-rounded c =
    let v : to_z w128 (of_z w128 c.div_euclid.result) ≡ floor_of c.args.a c.args.b = search rules in
    subst (λ (q : ℤ). IsFloor c.args.a c.args.b q) (sym v) (floor_is c.args.a c.args.b c.requires)
