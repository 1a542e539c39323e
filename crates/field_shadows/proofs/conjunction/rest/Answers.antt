use Rattle.std.proofs.Common.{pos, map, sym, subst}
use Rattle.std.specs.Prelude.{◌<ℤ◌}
use Rattle.logic_meaning.specs.Form.{coefficient}
use Rattle.elimination_theory.proofs.SomeListed.{each_map}
use Rattle.normal_atoms.specs.Atoms.{atom_of}
use Rattle.field_shadows.specs.Bounds.{IsLower, form_of_bound}
use Rattle.field_shadows.specs.Rest.{AreRest}
use Rattle.field_shadows.proofs.Finish.{rest_put_away, rest_open, rest_pairs}
use Rattle.field_shadows.proofs.conjunction.rest.Goals as goal

pub returns-in-Some : goal.returns-in-Some
returns-in-Some c = rest_put_away c.args.name.number c.in-Some.equation.now (map atom_of c.args.atoms.now) c.in_ok-put_away.field-0.items c.requires.normal c.in-Some.ensures.1 c.in-Some.ensures.0 c.in_ok-put_away.ensures

pub returns-then-is_open : goal.returns-then-is_open
returns-then-is_open c =
    let us = map atom_of c.args.atoms.now in
    let none = c.in_default.ensures in
    subst (AreRest c.args.name.number us) (sym c.new.ensures.items) (rest_open c.args.name.number us c.in_ok-split.split c.requires.normal none c.in_ok-split.ensures (c.is_open.ensures.0 c.if-is_open.true))

pub cross-requires : goal.cross-requires
cross-requires c = record { lowers = each_map (IsLower c.args.name.number (map atom_of c.args.atoms.now)) (λ b. coefficient c.args.name.number (form_of_bound b) <ℤ pos 0) (λ b h. h.1) c.in_ok-split.split.lowers.items c.in_ok-split.ensures.lowers }

pub returns : goal.returns
returns c = rest_pairs c.args.name.number (map atom_of c.args.atoms.now) c.in_ok-split.split c.in_ok-cross.field-0.items c.requires.normal c.in_ok-split.ensures c.if-split.false c.in_ok-cross.ensures
