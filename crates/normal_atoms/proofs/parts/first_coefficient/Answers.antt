use Rattle.std.proofs.Common.{rules, FitsSigned}
use Rattle.std.specs.Int.{w128}
use Rattle.std.proofs.lemmas.Int.{to_z-of_z}
use Rattle.normal_atoms.proofs.Ranges.{first_within}
use Rattle.normal_atoms.proofs.parts.first_coefficient.Goals as goal

pub returns-in-Some-clause-within : goal.returns-in-Some-clause-within
returns-in-Some-clause-within c =
    let f : FitsSigned w128 c.in-Some.coefficient = search rules in
    simp to_z-of_z (first_within c.args.form.now.terms _ c.in-Some.ensures.value c.in-Some.ensures.linear.within)
