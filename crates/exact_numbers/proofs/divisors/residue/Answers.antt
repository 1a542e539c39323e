use Rattle.std.proofs.Common.{◌≡◌, rules, subst, sym, to_z, of_z, ℤ}
use Rattle.std.specs.Int.{w128}
use Rattle.exact_numbers.specs.Divides.{residue_of}
use Rattle.exact_numbers.specs.Division.{IsResidue}
use Rattle.exact_numbers.proofs.Floor.{residue_is}
use Rattle.exact_numbers.proofs.divisors.residue.Goals as goal

pub returns-clause-remains : goal.returns-clause-remains
returns-clause-remains c =
    let v : to_z w128 (of_z w128 c.rem_euclid.result) ≡ residue_of c.args.a c.args.m = search rules in
    subst (λ (r : ℤ). IsResidue c.args.a c.args.m r) (sym v) (residue_is c.args.a c.args.m c.requires)
