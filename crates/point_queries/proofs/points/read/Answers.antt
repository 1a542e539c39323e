use Rattle.std.proofs.Common.{sym, ◌∙◌, Some, None}
use Rattle.std.proofs.lemmas.Bool.{false≢true}
use Rattle.session_state.specs.Keeping.{state_of}
use Rattle.session_state.specs.Scripted.{answered_tree}
use Rattle.point_queries.proofs.AskedLemmas.{unread_stops, read_clear, read_bound}
use Rattle.point_queries.proofs.points.read.Goals as goal

pub returns-then-met-clause-refused : goal.returns-then-met-clause-refused
returns-then-met-clause-refused c =
    let s = state_of c.args.state.now in
    let met = c.some_bound-met.ensures in
    read_bound s (answered_tree c.args.formula.now) c.args.entries.now c.requires.numbered c.in-Ok.ensures.readable (met.0 c.if-met.true)

pub returns-else-met-clause-read : goal.returns-else-met-clause-read
returns-else-met-clause-read c =
    let s = state_of c.args.state.now in
    let met = c.some_bound-met.ensures in
    record {
      clear = read_clear s (answered_tree c.args.formula.now) c.args.entries.now c.requires.numbered c.in-Ok.ensures.readable (λ h. false≢true (sym c.if-met.false ∙ met.1 h));
      formula = (c.in-Ok.ensures.readable, c.in-Ok.ensures.made);
    }

pub returns-in-Some-clause-refused : goal.returns-in-Some-clause-refused
returns-in-Some-clause-refused c =
    let s = state_of c.args.state.now in
    let met = c.some_bound-met.ensures in
    unread_stops s (answered_tree c.args.formula.now) c.args.entries.now c.requires.numbered c.in-Err.error c.some_bound-met.result met c.in-Err.ensures.unread (Some c.in-Some.error) (sym c.in-Some.is ∙ c.stop.ensures)

pub returns-in-None-clause-read : goal.returns-in-None-clause-read
returns-in-None-clause-read c =
    let s = state_of c.args.state.now in
    let met = c.some_bound-met.ensures in
    let stopped = unread_stops s (answered_tree c.args.formula.now) c.args.entries.now c.requires.numbered c.in-Err.error c.some_bound-met.result met c.in-Err.ensures.unread None (sym c.in-None.is ∙ c.stop.ensures) in
    record { clear = stopped.0; formula = stopped.1 }
