use Rattle.std.proofs.Common.{sym, subst}
use Rattle.logic_meaning.specs.Atom.{Compare}
use Rattle.normal_atoms.specs.Atoms.{relation_of}
use Rattle.integer_shadows.specs.declared.sides.Sides.{Sides}
use Rattle.integer_shadows.specs.Sides.{AreSidesWith}
use Rattle.integer_shadows.proofs.Making.{some_at}
use Rattle.integer_shadows.proofs.Binding.{with_differing, with_bound}
use Rattle.integer_shadows.proofs.sides.compared.Goals as goal

pub returns-in_ok-bounds-in-Differs : goal.returns-in_ok-bounds-in-Differs
returns-in_ok-bounds-in-Differs c =
    let x = c.args.name.number in let f = c.args.form.now in
    let old : Sides = record { shadow = c.args.shadow; bounds = c.args.bounds } in
    let new : Sides = record { shadow = c.args.shadow; bounds = c.in_ok-bounds-in-Differs.bounds } in
    subst (λ r. AreSidesWith x old new (Compare (relation_of r) f)) (sym c.in-Differs.is)
    (with_differing x c.args.shadow c.args.bounds c.in_ok-bounds-in-Differs.bounds f c.in_ok-form-in-Differs.form c.in_ok-form-in-Differs.ensures.same c.in_ok-bounds-in-Differs.ensures c.requires)

pub returns-in_ok-bounds-in-Some : goal.returns-in_ok-bounds-in-Some
returns-in_ok-bounds-in-Some c =
    with_bound c.args.name.number c.args.shadow c.args.bounds c.in_ok-bounds-in-Some.bounds (relation_of c.args.relation) c.args.form.now c.in-Some.form (some_at _ c.in-Some.is c.in_ok-form-in_default.ensures) c.in_ok-bounds-in-Some.ensures
