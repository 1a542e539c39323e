use Rattle.std.proofs.lemmas.Result.{err_from_is_err_and}
use Rattle.session_state.specs.Scripted.{answered_tree}
use Rattle.form_commands.proofs.PlainFormulas.{answers_stay}
use Rattle.point_queries.proofs.AskedLemmas.{asking_both}
use Rattle.point_queries.proofs.AskedSteps.{point_stops, ids_there, valued_stops, no_id, no_numbers, all_asked}
use Rattle.point_queries.proofs.points.asked.Goals as goal

pub returns-in_err-id-clause-refused : goal.returns-in_err-id-clause-refused
returns-in_err-id-clause-refused c =
    let p = err_from_is_err_and c.from_residual.result c.from_residual.ensures.1 in
    rw (p.1, p.2) (asking_both _ _ _ _ c.in_err-id.ensures.refused)

pub returns-in_err-point-clause-refused : goal.returns-in_err-point-clause-refused
returns-in_err-point-clause-refused c =
    let p = err_from_is_err_and c.from_residual-in_err-point.result c.from_residual-in_err-point.ensures.1 in
    rw (p.1, p.2) (point_stops c.args.state.now c.read.new.state (answered_tree c.args.formula.now) c.args.entries.now c.requires.session c.requires.numbered c.in_ok-id.ensures.kept c.in_ok-id.id c.in_ok-id.ensures.read c.in_err-point.field-0.0 c.in_err-point.ensures.fault)

pub check_valued-requires-clause-ids : goal.check_valued-requires-clause-ids
check_valued-requires-clause-ids c = ids_there c.args.state.now c.read.new.state (answered_tree c.args.formula.now) c.args.entries.now c.requires.session c.requires.numbered c.in_ok-id.ensures.kept

pub returns-in_err-check_valued-clause-refused : goal.returns-in_err-check_valued-clause-refused
returns-in_err-check_valued-clause-refused c =
    let p = err_from_is_err_and c.from_residual-in_err-check_valued.result c.from_residual-in_err-check_valued.ensures.1 in
    rw (p.1, p.2)
    (valued_stops c.args.state.now c.read.new.state (answered_tree c.args.formula.now) c.args.entries.now c.requires.session c.requires.numbered c.in_ok-id.ensures.kept c.in_ok-id.id c.in_ok-id.ensures.read
    c.in_ok-point.point c.in_ok-point.ensures.point c.in_err-check_valued.field-0.0 c.in_err-check_valued.ensures.fault)

pub returns-in_default-clause-refused : goal.returns-in_default-clause-refused
returns-in_default-clause-refused c =
    no_id c.args.state.now c.read.new.state (answered_tree c.args.formula.now) c.args.entries.now c.requires.session c.requires.numbered c.in_ok-id.ensures.kept c.in_ok-id.id c.in_ok-id.ensures.read
    c.in_ok-point.point c.in_ok-point.ensures.point c.in_ok-check_valued.ensures.valued c.in_default.not-Some

pub returns-in_default-point-clause-refused : goal.returns-in_default-point-clause-refused
returns-in_default-point-clause-refused c =
    no_numbers c.args.state.now c.read.new.state (answered_tree c.args.formula.now) c.args.entries.now c.requires.session c.requires.numbered c.in_ok-id.ensures.kept c.in_ok-id.id c.in_ok-id.ensures.read
    c.in_ok-point.point c.in_ok-point.ensures.point c.in_ok-check_valued.ensures.valued c.in_default-point.not-Some

pub returns-clause-asked : goal.returns-clause-asked
returns-clause-asked c =
    all_asked c.args.state.now c.read.new.state (answered_tree c.args.formula.now) c.args.entries.now c.requires.session c.requires.numbered c.in_ok-id.ensures.kept c.in_ok-id.id c.in_ok-id.ensures.read
    c.in_ok-point.point c.in_ok-point.ensures.point c.in_ok-check_valued.ensures.valued c.in-Some.id c.in-Some-point.point c.in-Some.is c.in-Some-point.is c.requires.entries

pub check_valued-requires-clause-answers : goal.check_valued-requires-clause-answers
check_valued-requires-clause-answers c = answers_stay c.args.state.now c.read.new.state c.in_ok-id.ensures.kept c.args.formula.now c.requires.answers
