use Rattle.std.proofs.Common.{inl, inr, ⊎_elim, refl, sym, ◌∙◌, subst, rules, IsTrue, ◌↔◌, true, false, MatchBool}
use Rattle.std.proofs.lemmas.Iterator.{YieldsList-from_slice, cases_from_any}
use Rattle.std.proofs.lemmas.Bool.{false≢true}
use Rattle.logic_meaning.specs.Some.{SomeOf}
use Rattle.normal_atoms.specs.Atoms.{context_of}
use Rattle.written_syntax.specs.Writable.{AreWritableEntries}
use Rattle.program_meaning.specs.Points.{MeanNoPoint}
use Rattle.program_meaning.specs.Grids.{lows, highs, steps, IsFlat}
use Rattle.point_queries.proofs.AxisLemmas.{lows_proper, highs_proper, steps_proper, some_of_cases}
use Rattle.point_queries.proofs.grids.check_axes.Goals as goal

pub meant_point-requires : goal.meant_point-requires
meant_point-requires c = subst AreWritableEntries (sym c.requires.lows) (lows_proper c.args.axes.now c.requires.axes)

pub meant_point-requires-2 : goal.meant_point-requires-2
meant_point-requires-2 c = subst AreWritableEntries (sym (c.deref.ensures.value ∙ c.in_ok-highs.ensures.entries)) (highs_proper c.args.axes.now c.requires.axes)

pub meant_point-requires-3 : goal.meant_point-requires-3
meant_point-requires-3 c = subst AreWritableEntries (sym (c.deref-2.ensures.value ∙ c.in_ok-steps.ensures.entries)) (steps_proper c.args.axes.now c.requires.axes)

pub returns-then-any-clause-fault : goal.returns-then-any-clause-fault
returns-then-any-clause-fault c =
    let told = some_of_cases IsFlat c.args.axes.now c.any.result
    (cases_from_any c.any.new.self _ c.any.result IsFlat (λ a. ¬ (IsFlat a)) c.any.ensures.ran (YieldsList-from_slice c.args.axes.now cc)
    (λ x q k. let t : IsTrue true ↔ IsFlat x.now = search rules in t.0 refl)
    (λ x q k. let t : IsTrue false ↔ IsFlat x.now = search rules in (refl, λ h. false≢true (t.1 h)))) in
    let flat : SomeOf IsFlat c.args.axes.now = subst (λ b. MatchBool b (SomeOf IsFlat c.args.axes.now) (¬ (SomeOf IsFlat c.args.axes.now))) c.if-any.true told in
    inl (refl, inr (inr (inr flat)))

pub returns-clause-meant : goal.returns-clause-meant
returns-clause-meant c =
    let told = some_of_cases IsFlat c.args.axes.now c.any.result
    (cases_from_any c.any.new.self _ c.any.result IsFlat (λ a. ¬ (IsFlat a)) c.any.ensures.ran (YieldsList-from_slice c.args.axes.now cc)
    (λ x q k. let t : IsTrue true ↔ IsFlat x.now = search rules in t.0 refl)
    (λ x q k. let t : IsTrue false ↔ IsFlat x.now = search rules in (refl, λ h. false≢true (t.1 h)))) in
    let steep : ¬ (SomeOf IsFlat c.args.axes.now) = subst (λ b. MatchBool b (SomeOf IsFlat c.args.axes.now) (¬ (SomeOf IsFlat c.args.axes.now))) c.if-any.false told in
    let theory = context_of c.args.state.now.context in
    let low : ¬ (MeanNoPoint theory (lows c.args.axes.now)) = subst (λ es. ¬ (MeanNoPoint theory es)) c.requires.lows c.in_ok-meant_point.ensures.point.meant in
    let high : ¬ (MeanNoPoint theory (highs c.args.axes.now)) = subst (λ es. ¬ (MeanNoPoint theory es)) (c.deref.ensures.value ∙ c.in_ok-highs.ensures.entries) c.in_ok-meant_point-2.ensures.point.meant in
    let step : ¬ (MeanNoPoint theory (steps c.args.axes.now)) = subst (λ es. ¬ (MeanNoPoint theory es)) (c.deref-2.ensures.value ∙ c.in_ok-steps.ensures.entries) c.in_ok-meant_point-3.ensures.point.meant in
    ⊎_elim low (⊎_elim high (⊎_elim step steep))
