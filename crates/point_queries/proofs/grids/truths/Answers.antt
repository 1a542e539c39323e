use Rattle.std.proofs.Common.{sym, subst}
use Rattle.std.proofs.lemmas.Result.{err_from_is_err_and}
use Rattle.language_meaning.specs.Statements.{Grid}
use Rattle.program_meaning.specs.Frames.{Frame}
use Rattle.point_grid.specs.FramePoints.{IsFrame}
use Rattle.session_state.specs.Keeping.{state_of}
use Rattle.session_state.specs.Scripted.{answered_tree}
use Rattle.point_queries.specs.Asked.{RefusesAsking}
use Rattle.form_commands.proofs.PlainFormulas.{answers_stay}
use Rattle.point_queries.proofs.AskedSteps.{ids_there}
use Rattle.point_queries.proofs.GridCauses.{grid_asks}
use Rattle.point_queries.proofs.GridSteps.{axes_stop, names_stop, quantifier_stops, reading_stops, grid_refused, free_there, whole_there, truths_told, truths_few, truths_accepted, truths_refused}
use Rattle.point_queries.proofs.grids.truths.Goals as goal

pub returns-in_err-id-clause-refused : goal.returns-in_err-id-clause-refused
returns-in_err-id-clause-refused g c =
    let p = err_from_is_err_and c.from_residual.result c.from_residual.ensures.1 in
    rw (p.1, p.2)
    (subst (λ es. RefusesAsking (state_of c.args.state.now) (answered_tree c.args.formula.now) es c.in_err-id.field-0.0) c.requires.lows c.in_err-id.ensures.refused
    (Grid (answered_tree c.args.formula.now) c.args.axes.now) (grid_asks (answered_tree c.args.formula.now) c.args.axes.now) c.args.workshop.now.limits.nodes)

pub returns-in_err-check_axes-clause-refused : goal.returns-in_err-check_axes-clause-refused
returns-in_err-check_axes-clause-refused g c =
    let p = err_from_is_err_and c.from_residual-in_err-check_axes.result c.from_residual-in_err-check_axes.ensures.1 in
    rw (p.1, p.2)
    (axes_stop c.args.state.now c.read.new.state (answered_tree c.args.formula.now) c.args.axes.now c.args.lows.now c.requires.lows c.requires.session c.requires.numbered c.in_ok-id.ensures.kept c.args.workshop.now.limits.nodes c.in_ok-id.id c.in_ok-id.ensures.read
    c.in_err-check_axes.field-0.0 c.in_err-check_axes.ensures.fault)

pub check_valued-requires-clause-ids : goal.check_valued-requires-clause-ids
check_valued-requires-clause-ids g c = ids_there c.args.state.now c.read.new.state (answered_tree c.args.formula.now) c.args.lows.now c.requires.session c.requires.numbered c.in_ok-id.ensures.kept

pub returns-in_err-check_valued-clause-refused : goal.returns-in_err-check_valued-clause-refused
returns-in_err-check_valued-clause-refused g c =
    let p = err_from_is_err_and c.from_residual-in_err-check_valued.result c.from_residual-in_err-check_valued.ensures.1 in
    rw (p.1, p.2)
    (names_stop c.args.state.now c.read.new.state (answered_tree c.args.formula.now) c.args.axes.now c.args.lows.now c.requires.lows c.requires.session c.requires.numbered c.in_ok-id.ensures.kept c.args.workshop.now.limits.nodes c.in_ok-id.id c.in_ok-id.ensures.read
    c.in_ok-check_axes.ensures.meant c.in_err-check_valued.field-0.0 c.in_err-check_valued.ensures.fault)

pub holds_quantifier-requires-clause-answers : goal.holds_quantifier-requires-clause-answers
holds_quantifier-requires-clause-answers g c = answers_stay c.args.state.now c.read.new.state c.in_ok-id.ensures.kept c.args.formula.now c.requires.answers

pub holds_quantifier-requires-clause-ids : goal.holds_quantifier-requires-clause-ids
holds_quantifier-requires-clause-ids g c = ids_there c.args.state.now c.read.new.state (answered_tree c.args.formula.now) c.args.lows.now c.requires.session c.requires.numbered c.in_ok-id.ensures.kept

pub returns-then-holds_quantifier-clause-refused : goal.returns-then-holds_quantifier-clause-refused
returns-then-holds_quantifier-clause-refused g c =
    quantifier_stops c.args.state.now c.read.new.state (answered_tree c.args.formula.now) c.args.axes.now c.args.lows.now c.requires.lows c.requires.session c.requires.numbered c.in_ok-id.ensures.kept c.args.workshop.now.limits.nodes c.in_ok-id.id c.in_ok-id.ensures.read
    c.in_ok-check_axes.ensures.meant c.in_ok-check_valued.ensures.valued (sym c.if-holds_quantifier.ensures)

pub returns-in_default-clause-refused : goal.returns-in_default-clause-refused
returns-in_default-clause-refused g c =
    reading_stops c.args.state.now c.read.new.state (answered_tree c.args.formula.now) c.args.axes.now c.args.lows.now c.requires.lows c.requires.session c.requires.numbered c.in_ok-id.ensures.kept c.args.workshop.now.limits.nodes c.in_ok-id.id c.in_ok-id.ensures.read
    c.in_ok-check_axes.ensures.meant c.in_ok-check_valued.ensures.valued c.if-holds_quantifier.ensures c.in_default.not-Some

pub returns-in_err-grid-clause-refused : goal.returns-in_err-grid-clause-refused
returns-in_err-grid-clause-refused g c =
    let p = err_from_is_err_and c.from_residual-in_err-grid.result c.from_residual-in_err-grid.ensures.1 in
    rw (p.1, p.2)
    (grid_refused c.args.state.now c.read.new.state (answered_tree c.args.formula.now) c.args.axes.now c.args.lows.now c.requires.lows c.requires.session c.requires.numbered c.in_ok-id.ensures.kept c.args.workshop.now.limits.nodes c.in_ok-id.id c.in_ok-id.ensures.read
    c.in_ok-check_axes.ensures.meant c.in_ok-check_valued.ensures.valued c.if-holds_quantifier.ensures c.in-Some.id c.in-Some.is c.in_err-grid.field-0.0 c.in_err-grid.ensures.stopped)

pub truths_at-requires-clause-free : goal.truths_at-requires-clause-free
truths_at-requires-clause-free g c _ _ =
    free_there c.args.state.now c.read.new.state (answered_tree c.args.formula.now) c.args.axes.now c.args.lows.now c.requires.lows c.requires.session c.requires.numbered c.in_ok-id.ensures.kept c.args.workshop.now.limits.nodes c.in_ok-id.id c.in_ok-id.ensures.read
    c.in_ok-check_axes.ensures.meant c.in_ok-check_valued.ensures.valued c.if-holds_quantifier.ensures c.in-Some.id c.in-Some.is

pub truths_at-requires-clause-whole : goal.truths_at-requires-clause-whole
truths_at-requires-clause-whole g c _ _ =
    whole_there c.args.state.now c.read.new.state (answered_tree c.args.formula.now) c.args.axes.now c.args.lows.now c.requires.lows c.requires.session c.requires.numbered c.in_ok-id.ensures.kept c.args.workshop.now.limits.nodes c.in_ok-id.id c.in_ok-id.ensures.read
    c.in_ok-check_axes.ensures.meant c.in_ok-check_valued.ensures.valued c.if-holds_quantifier.ensures c.in-Some.id c.in-Some.is c.in_ok-grid.grid c.in_ok-grid.ensures.grid c.requires.answers.scripted c.requires.axes c.grid.inside.points
    (subst (λ (f : Frame). IsFrame f c.grid.inside.points) c.grid.view_is c.grid.invariant)

pub returns-clause-truths : goal.returns-clause-truths
returns-clause-truths g c =
    truths_told c.args.state.now c.read.new.state (answered_tree c.args.formula.now) c.args.axes.now c.args.lows.now c.requires.lows c.requires.session c.requires.numbered c.in_ok-id.ensures.kept c.args.workshop.now.limits.nodes c.in_ok-id.id c.in_ok-id.ensures.read
    c.in_ok-check_axes.ensures.meant c.in_ok-check_valued.ensures.valued c.if-holds_quantifier.ensures c.in-Some.id c.in-Some.is c.in_ok-grid.grid c.in_ok-grid.ensures.grid c.requires.answers.scripted c.requires.axes (λ v. v.items) c.truths_at.result c.truths_at.ensures.truths

pub returns-clause-few : goal.returns-clause-few
returns-clause-few g c =
    truths_few c.args.state.now c.read.new.state (answered_tree c.args.formula.now) c.args.axes.now c.args.lows.now c.requires.lows c.requires.session c.requires.numbered c.in_ok-id.ensures.kept c.args.workshop.now.limits.nodes c.in_ok-id.id c.in_ok-id.ensures.read
    c.in_ok-check_axes.ensures.meant c.in_ok-check_valued.ensures.valued c.if-holds_quantifier.ensures c.in-Some.id c.in-Some.is c.in_ok-grid.grid c.in_ok-grid.ensures.grid c.requires.answers.scripted c.requires.axes (λ v. v.items) c.truths_at.result c.grid.inside.points
    (subst (λ (f : Frame). IsFrame f c.grid.inside.points) c.grid.view_is c.grid.invariant) c.truths_at.ensures.truths

pub returns-clause-accepted : goal.returns-clause-accepted
returns-clause-accepted g c =
    truths_accepted c.args.state.now c.read.new.state (answered_tree c.args.formula.now) c.args.axes.now c.args.lows.now c.requires.lows c.requires.session c.requires.numbered c.in_ok-id.ensures.kept c.args.workshop.now.limits.nodes c.in_ok-id.id c.in_ok-id.ensures.read
    c.in_ok-check_axes.ensures.meant c.in_ok-check_valued.ensures.valued c.if-holds_quantifier.ensures c.in-Some.id c.in-Some.is c.in_ok-grid.grid c.in_ok-grid.ensures.grid c.requires.answers.scripted c.requires.axes (λ v. v.items) c.truths_at.result

pub returns-clause-refused : goal.returns-clause-refused
returns-clause-refused g c =
    truths_refused c.args.state.now c.read.new.state (answered_tree c.args.formula.now) c.args.axes.now c.args.lows.now c.requires.lows c.requires.session c.requires.numbered c.in_ok-id.ensures.kept c.args.workshop.now.limits.nodes c.in_ok-id.id c.in_ok-id.ensures.read
    c.in_ok-check_axes.ensures.meant c.in_ok-check_valued.ensures.valued c.if-holds_quantifier.ensures c.in-Some.id c.in-Some.is c.in_ok-grid.grid c.in_ok-grid.ensures.grid c.requires.answers.scripted c.requires.axes (λ v. v.items) c.truths_at.result c.truths_at.ensures.stopped

pub check_valued-requires-clause-answers : goal.check_valued-requires-clause-answers
check_valued-requires-clause-answers g c = answers_stay c.args.state.now c.read.new.state c.in_ok-id.ensures.kept c.args.formula.now c.requires.answers
