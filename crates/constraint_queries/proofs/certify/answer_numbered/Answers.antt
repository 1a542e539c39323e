use Rattle.std.proofs.Common.{◌≡◌, None, map, sym, subst, rules, Err}
use Rattle.std.specs.Prelude.{IfErr}
use Rattle.language_meaning.specs.Trees.{formulas_of}
use Rattle.written_syntax.specs.CodeTrees.{formula_tree}
use Rattle.language_meaning.specs.Statements.{Certify}
use Rattle.certificates.specs.Certificates.{certificate_of}
use Rattle.session_state.specs.Keeping.{state_of}
use Rattle.form_commands.specs.Replies.{use_of, Refuses}
use Rattle.constraint_queries.proofs.AnswerSteps.{names_there, line_told, line_faulty}
use Rattle.constraint_queries.proofs.certify.answer_numbered.Goals as goal

pub returns-in_err-found-clause-refused : goal.returns-in_err-found-clause-refused
returns-in_err-found-clause-refused c =
    let written = formulas_of (map formula_tree c.args.written.now) in
    let e : c.from_residual.result ≡ Err c.in_err-found.field-0.0 = search rules in
    subst (λ r. IfErr r (Refuses (state_of c.args.state.now) c.args.limit (use_of None c.args.printed) (Certify written))) (sym e) (c.in_err-found.ensures.refused c.args.printed)

pub certificate_line-requires-clause-names : goal.certificate_line-requires-clause-names
certificate_line-requires-clause-names c =
    names_there c.args.state.now c.certificate_of.new.state (formulas_of (map formula_tree c.args.written.now)) c.requires.session c.requires.numbered c.requires.constraints c.in_ok-found.ensures.ready
    c.certificate_of.ensures.kept c.args.limit c.args.printed (certificate_of c.in_ok-found.found) c.in_ok-found.ensures.found

pub returns-clause-answer : goal.returns-clause-answer
returns-clause-answer c =
    line_told c.args.state.now c.certificate_of.new.state (formulas_of (map formula_tree c.args.written.now)) c.requires.session c.requires.numbered c.requires.constraints c.in_ok-found.ensures.ready
    c.certificate_of.ensures.kept c.args.limit c.args.printed (certificate_of c.in_ok-found.found) c.in_ok-found.ensures.found c.certificate_line.result c.certificate_of.new.state.names c.certificate_line.ensures.line

pub returns-clause-refused : goal.returns-clause-refused
returns-clause-refused c =
    line_faulty c.args.state.now c.certificate_of.new.state (formulas_of (map formula_tree c.args.written.now)) c.requires.session c.requires.numbered c.requires.constraints c.in_ok-found.ensures.ready
    c.certificate_of.ensures.kept c.args.limit c.args.printed (certificate_of c.in_ok-found.found) c.in_ok-found.ensures.found c.certificate_line.result c.certificate_line.ensures.fault
