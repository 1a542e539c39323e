use Rattle.std.proofs.Common.{refl, ◌∙◌, sym}
use Rattle.std.proofs.lemmas.Bool.{false≢true}
use Rattle.formula_store.specs.Nodes.{tree}
use Rattle.language_meaning.specs.declared.entries.PointEntry.{PointEntry}
use Rattle.written_syntax.proofs.EntryLists.{unfound_start, unfound_more, unfound_here, unfound_end}
use Rattle.language_meaning.specs.Causes.{IsBound}
use Rattle.program_meaning.specs.State.{known}
use Rattle.session_state.specs.Keeping.{state_of}
use Rattle.point_queries.proofs.AskedLemmas.{some_found, none_found, some_name}
use Rattle.point_queries.proofs.points.some_bound.Goals as goal

pub loop-entry-init : goal.loop-entry-init
loop-entry-init c = unfound_start _ _

pub returns-then-is_some : goal.returns-then-is_some
returns-then-is_some c =
    let d = c.args.state.now in
    let s = state_of d in
    let x = c.entry-item.result.name in
    let here = some_found (tree d.store) s.answers d.bindings x c.bound_formula.result c.bound_formula.ensures.bound c.bound_formula.ensures.short (sym c.is_some.ensures ∙ c.if-is_some.true) in
    let found = unfound_here (λ (e : PointEntry). IsBound (known s) e.name) c.args.entries.now c.loop-entry.entry-index c.entry-item.result c.loop-entry-test.true c.entry-item.is here c.loop-entry.invariant in
    (λ _. (some_name (IsBound (known s)) c.args.entries.now).0 found, λ _. refl)

pub loop-entry-preserved : goal.loop-entry-preserved
loop-entry-preserved c =
    let d = c.args.state.now in
    let s = state_of d in
    let x = c.entry-item.result.name in
    let free = none_found (tree d.store) s.answers d.bindings x c.bound_formula.result c.bound_formula.ensures.bound c.bound_formula.ensures.short (sym c.is_some.ensures ∙ c.if-is_some.false) in
    unfound_more (λ (e : PointEntry). IsBound (known s) e.name) c.args.entries.now c.loop-entry.entry-index c.entry-item.result c.loop-entry-test.true c.entry-item.is free c.loop-entry.invariant

pub returns : goal.returns
returns c =
    let s = state_of c.args.state.now in
    let none = unfound_end (λ (e : PointEntry). IsBound (known s) e.name) c.args.entries.now c.loop-entry.entry-index c.loop-entry-test.false c.loop-entry.invariant in
    (λ t. absurd (false≢true t), λ h. absurd (none ((some_name (IsBound (known s)) c.args.entries.now).1 h)))
