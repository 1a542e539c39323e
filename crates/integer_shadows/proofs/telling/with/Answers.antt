use Rattle.std.proofs.Common.{sym, ap, ◌∙◌, subst}
use Rattle.normal_atoms.specs.Atoms.{atom_of, tree_of, IsWellFormedNormal}
use Rattle.shadow_theory.specs.declared.shadow.Shadow.TheVariants.{Never, Atoms}
use Rattle.integer_shadows.specs.Told.{IsWith}
use Rattle.integer_shadows.proofs.Keeping.{atom_in, with_true, with_false, with_one}
use Rattle.integer_shadows.proofs.telling.with.Goals as goal

pub returns-in-Ok-True : goal.returns-in-Ok-True
returns-in-Ok-True c =
    let a = atom_of c.args.atom in let vs = c.in-Atoms.atoms in
    subst (λ s. IsWith s (Atoms vs) a) (sym c.in-Atoms.is)
    (with_true a (atom_in c.args.atom c.requires) vs (sym (ap tree_of c.in-Ok-True.field-0-is) ∙ c.in-Ok-True.ensures.normal))

pub returns-in-Ok-False : goal.returns-in-Ok-False
returns-in-Ok-False c =
    let a = atom_of c.args.atom in let vs = c.in-Atoms.atoms in
    subst (λ s. IsWith s Never a) (sym c.in-Atoms.is)
    (with_false a (atom_in c.args.atom c.requires) vs (sym (ap tree_of c.in-Ok-False.field-0-is) ∙ c.in-Ok-False.ensures.normal))

pub returns-in-Ok-One : goal.returns-in-Ok-One
returns-in-Ok-One c =
    let a = atom_of c.args.atom in let vs = c.in-Atoms.atoms in
    subst (λ s. IsWith s (Atoms c.push.new.self) a) (sym c.in-Atoms.is)
    (with_one a (atom_in c.args.atom c.requires) vs c.push.new.self c.in-Ok-One.atom (sym (ap tree_of c.in-Ok-One.field-0-is) ∙ c.in-Ok-One.ensures.normal)
    (subst IsWellFormedNormal c.in-Ok-One.field-0-is c.in-Ok-One.ensures.well_formed) c.in_ok-push-in-Ok-One.ensures.items)
