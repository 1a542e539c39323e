use Rattle.std.proofs.Common.{◌≡◌, ◌∙◌, sym, ap, subst, get_or, take, List, length, arith, ◌≤◌}
use Rattle.std.specs.List.{AllByRecursion}
use Rattle.std.proofs.lemmas.List.{take_all}
use Rattle.normal_atoms.specs.Atoms.{context_of, atom_of}
use Rattle.normal_atoms.specs.declared.answers.Merged.{Merged}
use Rattle.normal_atoms.specs.Computed.{Settled, Into, merged, merging_of}
use Rattle.formula_store.specs.declared.id.FormulaId.{FormulaId}
use Rattle.normal_forms.specs.Atoms.{atom_at}
use Rattle.normal_forms.specs.Merging.{IsWellMerged}
use Rattle.normal_forms.proofs.Partners.{Keeps, none_met, void_met, one_met}
use Rattle.normal_forms.proofs.merging.partner.Goals as goal

pub returns-in-True : goal.returns-in-True
returns-in-True c =
    let d : FormulaId = record { number = 0 } in
    let e : merged (context_of c.args.context) c.args.inner (atom_at c.args.store.now (get_or c.args.line.now c.loop-place.place d)) (atom_at c.args.store.now c.args.atom) ≡ Settled =
    sym c.in_ok-merged.ensures.merged ∙ ap merging_of c.in-True.is in
    record { met = void_met (context_of c.args.context) c.args.inner c.args.store.now c.args.atom c.args.line.now c.loop-place.place d c.loop-place-test.true c.loop-place.invariant e }

pub returns-in-False : goal.returns-in-False
returns-in-False c =
    let d : FormulaId = record { number = 0 } in
    let e : merged (context_of c.args.context) c.args.inner (atom_at c.args.store.now (get_or c.args.line.now c.loop-place.place d)) (atom_at c.args.store.now c.args.atom) ≡ Settled =
    sym c.in_ok-merged.ensures.merged ∙ ap merging_of c.in-False.is in
    record { met = void_met (context_of c.args.context) c.args.inner c.args.store.now c.args.atom c.args.line.now c.loop-place.place d c.loop-place-test.true c.loop-place.invariant e }

pub returns-in-One : goal.returns-in-One
returns-in-One c =
    let d : FormulaId = record { number = 0 } in
    let e : merged (context_of c.args.context) c.args.inner (atom_at c.args.store.now (get_or c.args.line.now c.loop-place.place d)) (atom_at c.args.store.now c.args.atom) ≡ Into (atom_of c.in-One.atom) =
    sym c.in_ok-merged.ensures.merged ∙ ap merging_of c.in-One.is in record {
      met = (
        subst (λ (m : Merged). IsWellMerged m) c.in-One.is c.in_ok-merged.ensures.well_formed,
        record {
          within = c.loop-place-test.true;
          met = one_met (context_of c.args.context) c.args.inner c.args.store.now c.args.atom c.args.line.now c.loop-place.place d (atom_of c.in-One.atom) c.loop-place-test.true c.loop-place.invariant e;
        },
      );
    }

pub returns : goal.returns
returns c =
    let past : length c.args.line.now ≤ c.loop-place.place = omega arith in
    let whole : take c.loop-place.place c.args.line.now ≡ c.args.line.now = take_all c.loop-place.place c.args.line.now past in
    record {
      met = none_met (context_of c.args.context) c.args.inner c.args.store.now c.args.atom c.args.line.now
          (subst (λ (us : List FormulaId). AllByRecursion (Keeps (context_of c.args.context) c.args.inner c.args.store.now c.args.atom) us) whole c.loop-place.invariant);
    }
