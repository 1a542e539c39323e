use Rattle.std.proofs.Common.{nat_eq, ◌≡◌, ◌<◌, ℕ, sym, ap, ◌∙◌, subst, get_or, arith, false}
use Rattle.logic_meaning.specs.Some.{EachOf}
use Rattle.normal_atoms.specs.Atoms.{context_of, atom_of}
use Rattle.normal_atoms.specs.Computed.{decided_by}
use Rattle.theory_simplifier.specs.VariableParts.{part_number}
use Rattle.theory_simplifier.proofs.Reading.{some_is, no_truth, IsSilent, others_silent, all_silent, speaks_at}
use Rattle.theory_simplifier.proofs.Indexed.{in_atoms, in_entries, entry_here, told_here, told_normal_here, first_more, before_here, all_here}
use Rattle.theory_simplifier.proofs.joined.Joined.decided.Goals as goal

pub loop-place-init : goal.loop-place-init
loop-place-init c = tt

pub index-requires : goal.index-requires
index-requires c =
    subst (λ (n : ℕ). get_or c.places_at-place-items.result.now c.loop-place.place-index 0 < n) (sym c.self.inside.entries.ok.0)
    (in_entries c.self.inside.junction c.self.inside.entries.items c.args.self.now c.self.view_is c.self.invariant.0 c.self.inside.places c.self.invariant.1 c.args.part c.places_at-place-items.result.now c.places_at-place-items.ensures
    c.loop-place.place-index c.loop-place-test.true)

pub decides-truth-requires-clause-well_formed : goal.decides-truth-requires-clause-well_formed
decides-truth-requires-clause-well_formed c =
    (entry_here c.self.inside.junction c.self.inside.entries.items c.args.self.now c.self.view_is c.self.invariant.0 c.self.inside.places c.self.invariant.1 c.args.part c.places_at-place-items.result.now c.places_at-place-items.ensures
    c.loop-place.place-index c.loop-place-test.true c.index.result.now c.index.ensures).told_well_formed

pub decides-truth-requires-clause-normal : goal.decides-truth-requires-clause-normal
decides-truth-requires-clause-normal c =
    (told_normal_here c.self.inside.junction c.self.inside.entries.items c.args.self.now c.self.view_is c.self.invariant.0 c.self.inside.places c.self.invariant.1 c.args.part c.places_at-place-items.result.now c.places_at-place-items.ensures
    c.loop-place.place-index c.loop-place-test.true c.index.result.now c.index.ensures (context_of c.args.context) c.requires.atoms).normal

pub returns-then-is_some : goal.returns-then-is_some
returns-then-is_some c =
    let o = context_of c.args.context in
    let l = c.args.self.now in
    let a = atom_of c.args.atom.now in
    let j = c.self.inside.junction in
    let b = some_is c.decides-truth.result (sym c.is_some.ensures ∙ c.if-is_some.true) in
    let t = told_here j c.self.inside.entries.items l c.self.view_is c.self.invariant.0 c.self.inside.places c.self.invariant.1 c.args.part c.places_at-place-items.result.now c.places_at-place-items.ensures
    c.loop-place.place-index c.loop-place-test.true c.index.result.now c.index.ensures a in
    let others = subst (λ (p : ℕ). EachOf (λ x. nat_eq (part_number x) p ≡ false → IsSilent o l.junction a x) l.atoms) (sym c.requires.part) (others_silent o l.junction a c.requires.normal.normal l.atoms c.requires.atoms) in
    sym (speaks_at o l.junction a l.atoms (get_or c.places_at-place-items.result.now c.loop-place.place-index 0) a c.decides-truth.result b.0
    (in_atoms j c.self.inside.entries.items l c.self.view_is c.self.invariant.0 c.self.inside.places c.self.invariant.1 c.args.part c.places_at-place-items.result.now c.places_at-place-items.ensures c.loop-place.place-index c.loop-place-test.true)
    (before_here j c.self.inside.entries.items l c.self.view_is c.self.invariant.0 c.self.inside.places c.self.invariant.1 c.args.part c.places_at-place-items.result.now c.places_at-place-items.ensures (IsSilent o l.junction a) a
    c.loop-place.place-index c.loop-place-test.true others c.loop-place.invariant)
    (ap (λ x. decided_by o x a) (sym t) ∙ sym c.decides-truth.ensures.computed) b.1)

pub loop-place-preserved : goal.loop-place-preserved
loop-place-preserved c =
    let o = context_of c.args.context in
    let l = c.args.self.now in
    let a = atom_of c.args.atom.now in
    let j = c.self.inside.junction in
    let t = told_here j c.self.inside.entries.items l c.self.view_is c.self.invariant.0 c.self.inside.places c.self.invariant.1 c.args.part c.places_at-place-items.result.now c.places_at-place-items.ensures
    c.loop-place.place-index c.loop-place-test.true c.index.result.now c.index.ensures a in
    first_more j c.self.inside.entries.items l c.self.view_is c.self.invariant.0 c.self.inside.places c.self.invariant.1 c.args.part c.places_at-place-items.result.now c.places_at-place-items.ensures (IsSilent o l.junction a) a
    c.loop-place.place-index c.loop-place-test.true c.loop-place.invariant
    (ap (λ x. decided_by o x a) (sym t) ∙ sym c.decides-truth.ensures.computed ∙ no_truth c.decides-truth.result (sym c.is_some.ensures ∙ c.if-is_some.false))

pub returns : goal.returns
returns c =
    let o = context_of c.args.context in
    let l = c.args.self.now in
    let a = atom_of c.args.atom.now in
    let others = subst (λ (p : ℕ). EachOf (λ x. nat_eq (part_number x) p ≡ false → IsSilent o l.junction a x) l.atoms) (sym c.requires.part) (others_silent o l.junction a c.requires.normal.normal l.atoms c.requires.atoms) in
    sym (all_silent o l.junction a l.atoms
    (all_here c.self.inside.junction c.self.inside.entries.items l c.self.view_is c.self.invariant.0 c.self.inside.places c.self.invariant.1 c.args.part c.places_at-place-items.result.now c.places_at-place-items.ensures (IsSilent o l.junction a) a
    c.loop-place.place-index (omega arith) others c.loop-place.invariant))
