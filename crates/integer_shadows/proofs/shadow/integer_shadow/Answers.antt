use Rattle.std.proofs.Common.{map}
use Rattle.std.proofs.lemmas.Result.{IfOk-weaker}
use Rattle.normal_atoms.specs.Atoms.{atom_of}
use Rattle.integer_shadows.proofs.Casting.{of_sides, of_equation}
use Rattle.integer_shadows.proofs.shadow.integer_shadow.Goals as goal

pub returns-in-Some-clause-shadow : goal.returns-in-Some-clause-shadow
returns-in-Some-clause-shadow c =
    let us = map atom_of c.args.atoms.now in
    IfOk-weaker _ _ _ (λ s h. of_equation (map atom_of c.args.given.now) c.args.name.number us c.in-Some.equation.now c.in_ok-shadow.shadow s c.in-Some.ensures c.in_ok-shadow.ensures h) c.solved.ensures

pub returns-in_ok-sides-in-None-clause-shadow : goal.returns-in_ok-sides-in-None-clause-shadow
returns-in_ok-sides-in-None-clause-shadow c =
    let us = map atom_of c.args.atoms.now in
    IfOk-weaker _ _ _ (λ s h. of_sides (map atom_of c.args.given.now) c.args.name.number us c.in_ok-sides-in-None.sides s c.in_ok-sides-in-None.ensures h) c.cast.ensures.shadow
