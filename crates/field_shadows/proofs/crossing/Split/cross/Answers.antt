use Rattle.std.specs.Prelude.{◌<ℤ◌}
use Rattle.std.proofs.Math.IntN.{pos}
use Rattle.std.proofs.Common.{◌≡◌, ◌⊎◌, ◌<◌, ⊎_elim, List, length, get_or, take, subst}
use Rattle.logic_meaning.specs.Some.{SomeOf, Among, EachOf}
use Rattle.linear_theory.proofs.Lists.{each_from}
use Rattle.formula_laws.proofs.Listed.{among_some, some_among}
use Rattle.elimination_theory.proofs.SomeListed.{each_map, each_among}
use Rattle.normal_atoms.specs.declared.atoms.Atom.{Atom as Written}
use Rattle.field_shadows.specs.declared.hold.Bound.{Bound}
use Rattle.logic_meaning.specs.Form.{coefficient}
use Rattle.field_shadows.specs.Bounds.{form_of_bound, IsJoined, AddsJoined}
use Rattle.field_shadows.proofs.Listing.{each_next, among_at}
use Rattle.field_shadows.proofs.crossing.Split.cross.Goals as goal

pub loop-lower-preserved : goal.loop-lower-preserved
loop-lower-preserved c =
    let x = c.args.name.number in
    let uppers = c.args.self.now.uppers.items in
    let lowers = c.args.self.now.lowers.items in
    let vs = c.loop-lower.new.items in
    let ws = c.add_joined.new.new.items in
    let b = c.lower-item.result in
    let i = c.loop-lower.lower-index in
    let before = c.loop-lower.invariant in
    let added : AddsJoined x b uppers vs ws = subst (λ (ds : List Bound). AddsJoined x b ds vs ws) c.deref.ensures.value c.in_ok-add_joined.ensures in
    let within = subst (λ (bs : List Bound). i < length bs) c.deref-lower-items.ensures.value c.loop-lower-test.true in
    let is = subst (λ (bs : List Bound). b ≡ get_or bs i b) c.deref-lower-items.ensures.value c.lower-item.is in
    let here = among_at lowers i b within is in
    let more : (d : Bound) → EachOf (λ (a : Bound). SomeOf (IsJoined x a d) vs) uppers → EachOf (λ (a : Bound). SomeOf (IsJoined x a d) ws) uppers =
    λ d h.
    each_map (λ (a : Bound). SomeOf (IsJoined x a d) vs) (λ (a : Bound). SomeOf (IsJoined x a d) ws)
    (λ a s. let v = some_among (IsJoined x a d) vs s in among_some (IsJoined x a d) ws v.0 (added.kept v.0 v.1) v.2) uppers h in
    record {
      each =
          each_next (λ (d : Bound). EachOf (λ (a : Bound). SomeOf (IsJoined x a d) ws) uppers) lowers i b within is
          (each_map (λ (d : Bound). EachOf (λ (a : Bound). SomeOf (IsJoined x a d) vs) uppers) (λ (d : Bound). EachOf (λ (a : Bound). SomeOf (IsJoined x a d) ws) uppers) more (take i lowers) before.each) added.each;
      from =
          each_from (λ (v : Written). SomeOf (λ (d : Bound). SomeOf (λ (a : Bound). IsJoined x a d v) uppers) lowers) ws
          (λ v m.
          ⊎_elim (λ n. each_among (λ (v : Written). SomeOf (λ (d : Bound). SomeOf (λ (a : Bound). IsJoined x a d v) uppers) lowers) vs v before.from n)
          (λ s. among_some (λ (d : Bound). SomeOf (λ (a : Bound). IsJoined x a d v) uppers) lowers b here s)
          (each_among (λ (w : Written). Among vs w ⊎ SomeOf (λ (a : Bound). IsJoined x a b w) uppers) ws v added.from m));
    }

pub add_joined-requires : goal.add_joined-requires
add_joined-requires c =
    let lowers = c.args.self.now.lowers.items in
    let b = c.lower-item.result in
    let i = c.loop-lower.lower-index in
    let within = subst (λ (bs : List Bound). i < length bs) c.deref-lower-items.ensures.value c.loop-lower-test.true in
    let is = subst (λ (bs : List Bound). b ≡ get_or bs i b) c.deref-lower-items.ensures.value c.lower-item.is in
    each_among (λ (d : Bound). coefficient c.args.name.number (form_of_bound d) <ℤ pos 0) lowers b c.requires.lowers (among_at lowers i b within is)
