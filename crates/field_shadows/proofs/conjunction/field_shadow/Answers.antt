use Rattle.std.proofs.Common.{◌++◌, List, [], map, sym, subst}
use Rattle.std.specs.List.{AllByRecursion}
use Rattle.logic_meaning.specs.Context.{Fields}
use Rattle.logic_meaning.specs.Some.{EachOf}
use Rattle.logic_meaning.specs.NormalForm.{IsNormal}
use Rattle.shadow_theory.specs.Shadows.{IsShadowOf}
use Rattle.normal_atoms.specs.declared.atoms.Atom.{Atom as Written}
use Rattle.normal_atoms.specs.Atoms.{atom_of, IsWellFormed}
use Rattle.field_shadows.specs.Normalised.{IsNormalised}
use Rattle.field_shadows.proofs.Listing.{ok_map}
use Rattle.field_shadows.proofs.Finish.{kept_normal, kept_well_formed, is_shadow}
use Rattle.field_shadows.proofs.conjunction.field_shadow.Goals as goal

pub normalised-requires-clause-kept : goal.normalised-requires-clause-kept
normalised-requires-clause-kept c =
    subst (λ (ws : List Written). EachOf (IsNormal Fields) (map atom_of ws)) (sym c.in_ok-kept-in-Ok-Some.ensures) (kept_normal c.args.name.number c.args.atoms.now c.requires.normal)

pub normalised-requires-clause-kept_well_formed : goal.normalised-requires-clause-kept_well_formed
normalised-requires-clause-kept_well_formed c = subst (AllByRecursion IsWellFormed) (sym c.in_ok-kept-in-Ok-Some.ensures) (kept_well_formed c.args.name.number c.args.atoms.now c.requires.well_formed)

pub returns-in_ok-kept-in-Ok-Some : goal.returns-in_ok-kept-in-Ok-Some
returns-in_ok-kept-in-Ok-Some c =
    let x = c.args.name.number in
    let all = c.args.atoms.now in
    let vs = c.in-Ok-Some.rest.items in
    ok_map c.normalised.result (IsNormalised (map atom_of c.in_ok-kept-in-Ok-Some.kept.items ++ map atom_of vs)) (IsShadowOf Fields [] x (map atom_of all))
    (λ s h. is_shadow x all vs (rw c.in-Ok-Some.field-0-is at c.in-Ok-Some.ensures) s (subst (λ (ws : List Written). IsNormalised (map atom_of ws ++ map atom_of vs) s) c.in_ok-kept-in-Ok-Some.ensures h))
    c.normalised.ensures
