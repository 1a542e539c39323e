use Rattle.std.proofs.Common.{nat_eq, ◌≡◌, ◌<◌, ℕ, sym, ap, ◌∙◌, subst, get_or, arith, false, true≢false}
use Rattle.logic_meaning.specs.Some.{EachOf}
use Rattle.logic_meaning.specs.declared.junction.Junction.{Junction}
use Rattle.normal_atoms.specs.Atoms.{context_of, atom_of}
use Rattle.normal_atoms.specs.declared.answers.Merged.TheVariants.{Keep}
use Rattle.normal_atoms.specs.Computed.{merged, merging_of}
use Rattle.theory_simplifier.specs.Listed.{Listed}
use Rattle.theory_simplifier.specs.VariableParts.{part_number}
use Rattle.theory_simplifier.proofs.Reading.{IsApart, others_apart}
use Rattle.theory_simplifier.proofs.Indexed.{in_atoms, in_entries, entry_here, atom_here, normal_here, first_more, before_here, all_here}
use Rattle.theory_simplifier.proofs.joined.Joined.partner.Goals as goal
use Rattle.theory_simplifier.proofs.joined.Joined.partner.Goals.{in-Keep, in_default}

pub loop-place-init : goal.loop-place-init
loop-place-init c = tt

pub index-requires : goal.index-requires
index-requires c =
    subst (λ (n : ℕ). get_or c.places_at-place-items.result.now c.loop-place.place-index 0 < n) (sym c.self.inside.entries.ok.0)
    (in_entries c.self.inside.junction c.self.inside.entries.items c.args.self.now c.self.view_is c.self.invariant.0 c.self.inside.places c.self.invariant.1 c.args.part c.places_at-place-items.result.now c.places_at-place-items.ensures
    c.loop-place.place-index c.loop-place-test.true)

pub merged-requires-clause-well_formed : goal.merged-requires-clause-well_formed
merged-requires-clause-well_formed c =
    (entry_here c.self.inside.junction c.self.inside.entries.items c.args.self.now c.self.view_is c.self.invariant.0 c.self.inside.places c.self.invariant.1 c.args.part c.places_at-place-items.result.now c.places_at-place-items.ensures
    c.loop-place.place-index c.loop-place-test.true c.index.result.now c.index.ensures).well_formed

pub merged-requires-clause-normal : goal.merged-requires-clause-normal
merged-requires-clause-normal c =
    normal_here c.self.inside.junction c.self.inside.entries.items c.args.self.now c.self.view_is c.self.invariant.0 c.self.inside.places c.self.invariant.1 c.args.part c.places_at-place-items.result.now c.places_at-place-items.ensures
    c.loop-place.place-index c.loop-place-test.true c.index.result.now c.index.ensures (context_of c.args.context) c.requires.atoms

pub returns-then-not-matches : goal.returns-then-not-matches
returns-then-not-matches c =
    let o = context_of c.args.context in
    let l = c.args.self.now in
    let a = atom_of c.args.atom.now in
    let j = c.self.inside.junction in
    let other : ¬ (c.in_ok-merged.merged ≡ Keep) = elim c.match-matches.branch [ in-Keep w ↦ absurd (true≢false (sym w.matches-is ∙ c.if-not-matches.true)) | in_default w ↦ w.in_default.not-Keep ] in
    let others = subst (λ (p : ℕ). EachOf (λ x. nat_eq (part_number x) p ≡ false → IsApart o l.junction a x) l.atoms) (sym c.requires.part) (others_apart o l.junction a c.requires.normal.normal l.atoms c.requires.atoms) in
    record {
      within = in_atoms j c.self.inside.entries.items l c.self.view_is c.self.invariant.0 c.self.inside.places c.self.invariant.1 c.args.part c.places_at-place-items.result.now c.places_at-place-items.ensures c.loop-place.place-index c.loop-place-test.true;
      apart = before_here j c.self.inside.entries.items l c.self.view_is c.self.invariant.0 c.self.inside.places c.self.invariant.1 c.args.part c.places_at-place-items.result.now c.places_at-place-items.ensures (IsApart o l.junction a) a
          c.loop-place.place-index c.loop-place-test.true others c.loop-place.invariant;
      become = c.in_ok-merged.ensures.merged ∙ ap (λ (k : Junction). merged o k (atom_of c.index.result.now.atom) a) (ap (λ (m : Listed). m.junction) c.self.view_is)
          ∙ ap (λ x. merged o l.junction x a) (sym (atom_here j c.self.inside.entries.items l c.self.view_is c.self.invariant.0 c.self.inside.places c.self.invariant.1 c.args.part c.places_at-place-items.result.now c.places_at-place-items.ensures
          c.loop-place.place-index c.loop-place-test.true c.index.result.now c.index.ensures a));
      merges = other;
      normal = c.in_ok-merged.ensures.normal;
    }

pub loop-place-preserved : goal.loop-place-preserved
loop-place-preserved c =
    let o = context_of c.args.context in
    let l = c.args.self.now in
    let a = atom_of c.args.atom.now in
    let j = c.self.inside.junction in
    let keep : c.in_ok-merged.merged ≡ Keep = elim c.match-matches.branch [ in-Keep w ↦ w.in-Keep.is | in_default w ↦ absurd (true≢false (sym c.if-not-matches.false ∙ w.matches-is)) ] in
    first_more j c.self.inside.entries.items l c.self.view_is c.self.invariant.0 c.self.inside.places c.self.invariant.1 c.args.part c.places_at-place-items.result.now c.places_at-place-items.ensures (IsApart o l.junction a) a
    c.loop-place.place-index c.loop-place-test.true c.loop-place.invariant
    (ap (λ x. merged o l.junction x a) (atom_here j c.self.inside.entries.items l c.self.view_is c.self.invariant.0 c.self.inside.places c.self.invariant.1 c.args.part c.places_at-place-items.result.now c.places_at-place-items.ensures
    c.loop-place.place-index c.loop-place-test.true c.index.result.now c.index.ensures a)
    ∙ ap (λ (k : Junction). merged o k (atom_of c.index.result.now.atom) a) (sym (ap (λ (m : Listed). m.junction) c.self.view_is)) ∙ sym c.in_ok-merged.ensures.merged ∙ ap merging_of keep)

pub returns : goal.returns
returns c =
    let o = context_of c.args.context in
    let l = c.args.self.now in
    let a = atom_of c.args.atom.now in
    let others = subst (λ (p : ℕ). EachOf (λ x. nat_eq (part_number x) p ≡ false → IsApart o l.junction a x) l.atoms) (sym c.requires.part) (others_apart o l.junction a c.requires.normal.normal l.atoms c.requires.atoms) in
    all_here c.self.inside.junction c.self.inside.entries.items l c.self.view_is c.self.invariant.0 c.self.inside.places c.self.invariant.1 c.args.part c.places_at-place-items.result.now c.places_at-place-items.ensures (IsApart o l.junction a) a
    c.loop-place.place-index (omega arith) others c.loop-place.invariant
