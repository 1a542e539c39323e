use Rattle.std.proofs.lemmas.Result.{IfOk-weaker}
use Rattle.normal_atoms.specs.Atoms.{atom_of}
use Rattle.integer_shadows.proofs.Making.{some_at}
use Rattle.integer_shadows.proofs.Equations.{more_by}
use Rattle.integer_shadows.proofs.solving.with_solved.Goals as goal

pub returns-in-Some : goal.returns-in-Some
returns-in-Some c =
    let h = some_at _ c.in-Some.is c.in_ok-atom.ensures.solved in
    IfOk-weaker _ _ _ (λ s w. more_by c.args.name.number c.args.equation.now (atom_of c.args.atom.now) (atom_of c.in-Some.atom) c.args.shadow s c.requires.mentioned h w) c.with.ensures
