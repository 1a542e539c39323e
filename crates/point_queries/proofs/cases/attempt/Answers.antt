use Rattle.std.proofs.Common.{◌≡◌, List, sym, subst, rules, map, length, Err}
use Rattle.std.specs.Prelude.{Result, IfOk, IfErr}
use Rattle.redlog_printer.specs.Within.{AreCasesWithin}
use Rattle.logic_meaning.specs.AnswerTexts.{cases_text}
use Rattle.reference_engine.specs.declared.cases.PrintedCase.{PrintedCase}
use Rattle.reference_engine.specs.Case.{case_seen}
use Rattle.language_meaning.specs.Trees.{formulas_of}
use Rattle.written_syntax.specs.CodeTrees.{formula_tree}
use Rattle.program_meaning.specs.declared.line.Line.{Line}
use Rattle.program_meaning.specs.declared.line.StatementError.{StatementError}
use Rattle.program_meaning.specs.Reply.{IsLine}
use Rattle.point_queries.specs.CaseLists.{CasesRefuse}
use Rattle.form_commands.specs.Refusals.{LineFault}
use Rattle.session_state.specs.Keeping.{state_of}
use Rattle.session_state.specs.Scripted.{answered_tree}
use Rattle.point_queries.proofs.CaseSteps.{attempt_stopped, within_there, line_answered, line_refused}
use Rattle.point_queries.proofs.cases.attempt.Goals as goal

pub returns-in_err-cases-clause-refused : goal.returns-in_err-cases-clause-refused
returns-in_err-cases-clause-refused g c =
    let s = state_of c.args.state.now in
    let f = answered_tree c.args.formula.now in
    let gs = formulas_of (map formula_tree c.args.given.now) in
    let e : c.from_residual.result ≡ Err c.in_err-cases.field-0.0 = search rules in
    let stop : Result Line StatementError = Err c.in_err-cases.field-0.0 in
    subst (λ r. IfErr r (CasesRefuse c.args.way s c.args.workshop.now.limits.nodes c.args.printed f gs)) (sym e)
    (attempt_stopped stop c.args.way s c.args.workshop.now.limits.nodes c.args.printed f gs c.in_err-cases.ensures.refused)

pub line_of_cases-requires : goal.line_of_cases-requires
line_of_cases-requires g c =
    let same : c.deref.result.now ≡ c.in_ok-cases.cases.items = search rules in
    subst (λ (xs : List PrintedCase). AreCasesWithin (length c.cases_of.new.state.names) (map case_seen xs)) (sym same)
    (within_there c.args.state.now c.cases_of.new.state (answered_tree c.args.formula.now) (formulas_of (map formula_tree c.args.given.now)) c.requires.session c.requires.numbered c.in_ok-cases.ensures.readable
    c.cases_of.ensures.kept c.requires.answers.scripted c.args.workshop.now.limits.nodes c.args.printed c.args.way c.in_ok-cases.cases.items c.in_ok-cases.ensures.cases)

pub returns-clause-answer : goal.returns-clause-answer
returns-clause-answer g c =
    let same : c.deref.result.now ≡ c.in_ok-cases.cases.items = search rules in
    line_answered c.args.state.now c.cases_of.new.state (answered_tree c.args.formula.now) (formulas_of (map formula_tree c.args.given.now)) c.requires.session c.requires.numbered c.in_ok-cases.ensures.readable
    c.cases_of.ensures.kept c.requires.answers.scripted c.args.workshop.now.limits.nodes c.args.printed c.args.way c.in_ok-cases.cases.items c.in_ok-cases.ensures.cases
    c.line_of_cases.result c.cases_of.new.state.names (subst (λ (xs : List PrintedCase). IfOk c.line_of_cases.result (IsLine c.args.printed (cases_text c.cases_of.new.state.names (map case_seen xs)))) same c.line_of_cases.ensures.line)

pub returns-clause-refused : goal.returns-clause-refused
returns-clause-refused g c =
    let same : c.deref.result.now ≡ c.in_ok-cases.cases.items = search rules in
    line_refused c.args.state.now c.cases_of.new.state (answered_tree c.args.formula.now) (formulas_of (map formula_tree c.args.given.now)) c.requires.session c.requires.numbered c.in_ok-cases.ensures.readable
    c.cases_of.ensures.kept c.requires.answers.scripted c.args.workshop.now.limits.nodes c.args.printed c.args.way c.in_ok-cases.cases.items c.in_ok-cases.ensures.cases
    c.line_of_cases.result (subst (λ (xs : List PrintedCase). IfErr c.line_of_cases.result (LineFault c.args.printed (cases_text c.cases_of.new.state.names (map case_seen xs)))) same c.line_of_cases.ensures.fault)
