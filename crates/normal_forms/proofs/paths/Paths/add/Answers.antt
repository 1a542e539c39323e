use Rattle.std.proofs.Common.{◌≡◌, Some, IsSome, List, refl, sym, ap, ◌∙◌, subst, get_or, arith, take}
use Rattle.std.proofs.lemmas.List.{take_all, take_more}
use Rattle.formula_store.specs.declared.id.FormulaId.{FormulaId}
use Rattle.normal_forms.specs.declared.paths.Place.{Place}
use Rattle.normal_forms.specs.Paths.{Leads, Notes, goes_up_to}
use Rattle.normal_forms.proofs.LineSteps.{on_ok}
use Rattle.normal_forms.proofs.PathLaws.{Way, grows_then, way_stays, way_then, way_leads, notes_grow}
use Rattle.normal_forms.proofs.paths.Paths.add.Goals as goal

pub loop-atom-preserved : goal.loop-atom-preserved
loop-atom-preserved c =
    let d : FormulaId = record { number = 0 } in
    let old = c.loop-atom.self in
    let new = c.step.new.self in
    let front : List FormulaId = take c.loop-atom.atom-index c.args.atoms.now in
    record {
      grows = grows_then c.args.self.now old new c.loop-atom.invariant.grows c.step.ensures.grows;
      way = subst (λ us. Way new 0 us c.in_ok-place.place) (sym (take_more c.args.atoms.now c.loop-atom.atom-index d c.loop-atom-test.true))
          (way_then new 0 front c.loop-atom.place (get_or c.args.atoms.now c.loop-atom.atom-index d) c.in_ok-place.place (way_stays old new c.step.ensures.grows 0 front c.loop-atom.place c.loop-atom.invariant.way) c.in_ok-place.ensures.leads);
    }

pub returns-clause-leads : goal.returns-clause-leads
returns-clause-leads c =
    let old = c.loop-atom.self in
    let new = c.note.new.self in
    let place = c.loop-atom.place in
    let known : Place = record { greatest = c.place-known.result.greatest; list = Some c.args.list } in
    let past = c.loop-atom-test.false in
    let whole : take c.loop-atom.atom-index c.args.atoms.now ≡ c.args.atoms.now = take_all c.loop-atom.atom-index c.args.atoms.now (omega arith) in
    let way : Way old 0 c.args.atoms.now place = subst (λ us. Way old 0 us place) whole c.loop-atom.invariant.way in
    on_ok (Notes old new place known) (Leads new 0 c.args.atoms.now) c.note.result c.note.ensures.noted
    (λ n. way_leads new 0 c.args.atoms.now place
    (way_stays old new (notes_grow old new place known n (λ i. refl) (λ u e. ap (λ (y : Place). goes_up_to y u) c.place-known.ensures ∙ e)) 0 c.args.atoms.now place way)
    (subst (λ (y : Place). IsSome y.list) (sym n.here) refl))
