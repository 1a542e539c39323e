use Rattle.std.proofs.Common.{rules, ◌≡◌, Err, sym, subst, map}
use Rattle.std.specs.Prelude.{IfErr}
use Rattle.language_meaning.specs.Trees.{formulas_of}
use Rattle.written_syntax.specs.CodeTrees.{formula_tree}
use Rattle.session_state.specs.Keeping.{state_of}
use Rattle.form_commands.specs.Reading.{AreAllRead}
use Rattle.form_commands.proofs.ReadLemmas.{proper_items}
use Rattle.session_commands.specs.Standing.{RefusesAssumptions}
use Rattle.session_commands.proofs.StandingLemmas.{all_unread, grown_within, answered_session, answered, refused, kept}
use Rattle.session_commands.proofs.assumptions.assume_numbered.Goals as goal

pub read_all-requires-clause-proper : goal.read_all-requires-clause-proper
read_all-requires-clause-proper c = proper_items c.args.given.now c.requires.proper

pub returns-in_err-ids-clause-refused : goal.returns-in_err-ids-clause-refused
returns-in_err-ids-clause-refused c =
    let s = state_of c.args.state.now in
    let gs = formulas_of (map formula_tree c.args.given.now) in
    let e : c.from_residual.result ≡ Err c.in_err-ids.field-0.0 = search rules in
    subst (λ r. IfErr r (RefusesAssumptions gs s c.args.printed)) (sym e) (all_unread s gs c.requires.numbered 0 c.args.printed c.in_err-ids.field-0.0 c.in_err-ids.ensures.unread)

pub stand-requires-clause-within : goal.stand-requires-clause-within
stand-requires-clause-within c =
    let old = c.args.state.now in
    let gs = formulas_of (map formula_tree c.args.given.now) in
    let read = subst (AreAllRead (state_of old) gs c.read_all.new.state) (sym c.deref.ensures.value) c.in_ok-ids.ensures.read in
    grown_within old c.read_all.new.state gs c.requires.session c.requires.numbered c.requires.proper c.read_all.ensures.kept c.deref.result.now read

pub returns-clause-session : goal.returns-clause-session
returns-clause-session c =
    let old = c.args.state.now in
    let gs = formulas_of (map formula_tree c.args.given.now) in
    let read = subst (AreAllRead (state_of old) gs c.read_all.new.state) (sym c.deref.ensures.value) c.in_ok-ids.ensures.read in
    answered_session old c.read_all.new.state gs c.requires.session c.requires.numbered c.requires.proper c.read_all.ensures.kept c.deref.result.now read c.stand.result c.args.printed c.stand.new.state c.stand.ensures.grown

pub returns-clause-answer : goal.returns-clause-answer
returns-clause-answer c =
    let old = c.args.state.now in
    let gs = formulas_of (map formula_tree c.args.given.now) in
    let read = subst (AreAllRead (state_of old) gs c.read_all.new.state) (sym c.deref.ensures.value) c.in_ok-ids.ensures.read in
    answered old c.read_all.new.state gs c.requires.session c.requires.numbered c.requires.proper c.read_all.ensures.kept c.deref.result.now read c.stand.result c.args.printed c.stand.new.state
    c.stand.ensures.grown c.stand.ensures.line c.stand.ensures.short

pub returns-clause-refused : goal.returns-clause-refused
returns-clause-refused c =
    let old = c.args.state.now in
    let gs = formulas_of (map formula_tree c.args.given.now) in
    let read = subst (AreAllRead (state_of old) gs c.read_all.new.state) (sym c.deref.ensures.value) c.in_ok-ids.ensures.read in
    refused old c.read_all.new.state gs c.requires.session c.requires.numbered c.requires.proper c.read_all.ensures.kept c.deref.result.now read c.stand.result c.args.printed c.stand.new.state c.stand.ensures.fault

pub returns-clause-kept : goal.returns-clause-kept
returns-clause-kept c =
    let old = c.args.state.now in
    let gs = formulas_of (map formula_tree c.args.given.now) in
    let read = subst (AreAllRead (state_of old) gs c.read_all.new.state) (sym c.deref.ensures.value) c.in_ok-ids.ensures.read in
    kept old c.read_all.new.state gs c.requires.session c.requires.numbered c.requires.proper c.read_all.ensures.kept c.deref.result.now read c.stand.result c.args.printed c.stand.new.state c.stand.ensures.unchanged
