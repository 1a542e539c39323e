use Rattle.std.proofs.Common.{sym, subst}
use Rattle.logic_meaning.specs.Context.{Fields}
use Rattle.logic_meaning.specs.NormalForm.{normal_atom}
use Rattle.logic_meaning.specs.Steps.{atom_at}
use Rattle.formula_laws.specs.Equivalence.{InContext}
use Rattle.elimination_theory.proofs.Simple.{simple_in}
use Rattle.elimination_theory.proofs.Tidy.{atom_at_simple}
use Rattle.normal_atoms.specs.Atoms.{atom_of}
use Rattle.test_points.specs.Points.{place_of}
use Rattle.short_answers.proofs.candidates.put_in_fields.Goals as goal

pub returns-in-Ok-clause-in_context : goal.returns-in-Ok-clause-in_context
returns-in-Ok-clause-in_context c =
    let x = c.args.point.now.name.number in
    let s = place_of c.args.point.now in
    let a = atom_of c.args.atom.now in
    subst (InContext Fields) (sym c.in-Ok.ensures.substituted) (simple_in Fields (atom_at Fields (normal_atom Fields) x s a) (atom_at_simple Fields x s a c.requires.point.place c.requires.in_context))
