use Rattle.std.proofs.Common.{List, map, refl, subst, ap, ◌∙◌}
use Rattle.std.specs.Prelude.{Option}
use Rattle.std.specs.declared.vec.Vec.{Vec}
use Rattle.std.specs.declared.alloc.Global.{Global}
use Rattle.logic_meaning.specs.Some.{Among}
use Rattle.normal_atoms.specs.declared.atoms.Atom.{Atom}
use Rattle.normal_atoms.specs.Atoms.{context_of, atom_of}
use Rattle.shadow_theory.specs.declared.shadow.Shadow.{Shadow}
use Rattle.shadow_theory.specs.declared.shadow.Shadow.TheVariants.{Never, Atoms}
use Rattle.shadow_theory.specs.Shadows.{IsShadowOf}
use Rattle.narrowed_blocks.specs.Narrowing.{others_of}
use Rattle.narrowed_blocks.specs.declared.open_block.OpenBlock.{OpenBlock}
use Rattle.narrowed_blocks.specs.Settings.{assumed_in, AreNeeded, Becomes}
use Rattle.narrowed_blocks.proofs.Narrower.{never_open, never_shadow}
use Rattle.narrowed_blocks.proofs.Becoming.{becomes_narrower, becomes_turned, place_among}
use Rattle.narrowed_blocks.proofs.setting.Setting.without.Goals as goal

pub returns-in-Never : goal.returns-in-Never
returns-in-Never c =
    let s = c.args.self.now in
    let b = c.args.block.now in
    let o = context_of s.context in
    let ks = assumed_in s in
    let x = c.in-Some.name in
    let m : Among b.movable.items x = place_among _ b.movable.items c.deref.result.now c.args.place c.get.result c.copied.result x c.deref.ensures.value c.get.ensures.lookup.3 c.copied.ensures c.in-Some.is in
    let told : IsShadowOf o ks x.number (map atom_of b.atoms.items) Never =
    subst (λ (us : List Atom). IsShadowOf o ks x.number (map atom_of us) Never) c.deref-2.ensures.value
    (subst (λ (h : Shadow). IsShadowOf o ks x.number (map atom_of c.deref-2.result.now) h) c.in-Never.is c.in_ok-shadow.ensures) in
    never_open o ks b x m told

pub returns-in_default-2 : goal.returns-in_default-2
returns-in_default-2 c =
    let s = c.args.self.now in
    let b = c.args.block.now in
    let o = context_of s.context in
    let ks = assumed_in s in
    let x = c.in-Some.name in
    let vs : Vec Atom Global = c.in-Atoms.atoms in
    let m : Among b.movable.items x = place_among _ b.movable.items c.deref.result.now c.args.place c.get.result c.copied.result x c.deref.ensures.value c.get.ensures.lookup.3 c.copied.ensures c.in-Some.is in
    let told : IsShadowOf o ks x.number (map atom_of b.atoms.items) (Atoms vs) =
    subst (λ (us : List Atom). IsShadowOf o ks x.number (map atom_of us) (Atoms vs)) c.deref-2.ensures.value
    (subst (λ (h : Shadow). IsShadowOf o ks x.number (map atom_of c.deref-2.result.now) h) c.in-Atoms.is c.in_ok-shadow.ensures) in
    never_shadow o ks b x m vs.items told (subst (λ (k : Option (Vec Atom Global)). AreNeeded s vs.items k) c.in_default-2.is c.in_ok-atoms-in-Atoms.ensures)

pub returns-in_ok-movable-in-Atoms : goal.returns-in_ok-movable-in-Atoms
returns-in_ok-movable-in-Atoms c =
    let s = c.args.self.now in
    let b = c.args.block.now in
    let o = context_of s.context in
    let ks = assumed_in s in
    let x = c.in-Some.name in
    let vs : Vec Atom Global = c.in-Atoms.atoms in
    let m : Among b.movable.items x = place_among _ b.movable.items c.deref.result.now c.args.place c.get.result c.copied.result x c.deref.ensures.value c.get.ensures.lookup.3 c.copied.ensures c.in-Some.is in
    let told : IsShadowOf o ks x.number (map atom_of b.atoms.items) (Atoms vs) =
    subst (λ (us : List Atom). IsShadowOf o ks x.number (map atom_of us) (Atoms vs)) c.deref-2.ensures.value
    (subst (λ (h : Shadow). IsShadowOf o ks x.number (map atom_of c.deref-2.result.now) h) c.in-Atoms.is c.in_ok-shadow.ensures) in
    let now : OpenBlock = record { atoms = c.in-Some-2.atoms; names = c.in_ok-names-in-Atoms.names; movable = c.in_ok-movable-in-Atoms.movable } in
    let narrower : Becomes s b now =
    becomes_narrower s b now x m vs.items told c.in-Some-2.atoms (subst (λ (k : Option (Vec Atom Global)). AreNeeded s vs.items k) c.in-Some-2.is c.in_ok-atoms-in-Atoms.ensures) refl
    (c.in_ok-names-in-Atoms.ensures ∙ ap (others_of x) c.deref-in-Atoms-4.ensures.value) (c.in_ok-movable-in-Atoms.ensures ∙ ap (others_of x) c.deref-in-Atoms-5.ensures.value) in
    becomes_turned s b now _ c.turned.ensures.atoms.0 narrower c.turned.ensures.atoms.1 c.turned.ensures.names c.turned.ensures.movable
