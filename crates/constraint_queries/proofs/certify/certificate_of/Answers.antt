use Rattle.std.proofs.Common.{◌≡◌, map, sym, ap, ◌∙◌, subst, rules, Err}
use Rattle.std.specs.Prelude.{IfErr}
use Rattle.linear_forms.specs.Values.{number_of}
use Rattle.language_meaning.specs.Trees.{formulas_of}
use Rattle.written_syntax.specs.CodeTrees.{formula_tree}
use Rattle.certificates.specs.Constraints.{constraint_of}
use Rattle.certificates.specs.Certificates.{certificate_of}
use Rattle.program_meaning.specs.Certificates.{constrained_names, constraints_of}
use Rattle.session_state.specs.Keeping.{state_of}
use Rattle.constraint_queries.specs.Steps.{RefusesCertificate}
use Rattle.constraint_queries.proofs.AnswerSteps.{names_differ, over_names, certificate_found, certificate_stopped}
use Rattle.constraint_queries.proofs.certify.certificate_of.Goals as goal

pub returns-in_err-constraints-clause-refused : goal.returns-in_err-constraints-clause-refused
returns-in_err-constraints-clause-refused c =
    let written = formulas_of (map formula_tree c.args.written.now) in
    let e : c.from_residual.result ≡ Err c.in_err-constraints.field-0.0 = search rules in
    subst (λ r. IfErr r (RefusesCertificate (state_of c.args.state.now) c.args.limit written)) (sym e) (c.in_err-constraints.ensures.refused.search c.args.limit)

pub certify-requires-clause-names_differ : goal.certify-requires-clause-names_differ
certify-requires-clause-names_differ c =
    let later = c.constraints_of.new.state in
    let written = formulas_of (map formula_tree c.args.written.now) in
    let named : map number_of c.deref-2.result.now ≡ constrained_names (state_of later) written = ap (map number_of) c.deref-2.ensures.value ∙ c.in_ok-names.ensures.names in
    let read : map constraint_of c.deref.result.now ≡ constraints_of (state_of c.args.state.now) written = ap (map constraint_of) c.deref.ensures.value ∙ c.in_ok-constraints.ensures.constraints in
    names_differ c.args.state.now later written c.requires.session c.requires.numbered c.requires.constraints c.in_ok-constraints.ensures.ready c.constraints_of.ensures.kept
    (map number_of c.deref-2.result.now) (map constraint_of c.deref.result.now) named read

pub certify-requires-clause-over : goal.certify-requires-clause-over
certify-requires-clause-over c =
    let later = c.constraints_of.new.state in
    let written = formulas_of (map formula_tree c.args.written.now) in
    let named : map number_of c.deref-2.result.now ≡ constrained_names (state_of later) written = ap (map number_of) c.deref-2.ensures.value ∙ c.in_ok-names.ensures.names in
    let read : map constraint_of c.deref.result.now ≡ constraints_of (state_of c.args.state.now) written = ap (map constraint_of) c.deref.ensures.value ∙ c.in_ok-constraints.ensures.constraints in
    over_names c.args.state.now later written c.requires.session c.requires.numbered c.requires.constraints c.in_ok-constraints.ensures.ready c.constraints_of.ensures.kept
    (map number_of c.deref-2.result.now) (map constraint_of c.deref.result.now) named read

pub returns-in-Ok-clause-found : goal.returns-in-Ok-clause-found
returns-in-Ok-clause-found c =
    let later = c.constraints_of.new.state in
    let written = formulas_of (map formula_tree c.args.written.now) in
    let named : map number_of c.deref-2.result.now ≡ constrained_names (state_of later) written = ap (map number_of) c.deref-2.ensures.value ∙ c.in_ok-names.ensures.names in
    let read : map constraint_of c.deref.result.now ≡ constraints_of (state_of c.args.state.now) written = ap (map constraint_of) c.deref.ensures.value ∙ c.in_ok-constraints.ensures.constraints in
    certificate_found c.args.state.now later written c.requires.session c.requires.numbered c.requires.constraints c.in_ok-constraints.ensures.ready c.constraints_of.ensures.kept
    (map number_of c.deref-2.result.now) (map constraint_of c.deref.result.now) named read c.args.limit (certificate_of c.in-Ok.found) c.in-Ok.ensures.answered c.in-Ok.ensures.certificate

pub returns-clause-refused : goal.returns-clause-refused
returns-clause-refused c =
    let later = c.constraints_of.new.state in
    let written = formulas_of (map formula_tree c.args.written.now) in
    let named : map number_of c.deref-2.result.now ≡ constrained_names (state_of later) written = ap (map number_of) c.deref-2.ensures.value ∙ c.in_ok-names.ensures.names in
    let read : map constraint_of c.deref.result.now ≡ constraints_of (state_of c.args.state.now) written = ap (map constraint_of) c.deref.ensures.value ∙ c.in_ok-constraints.ensures.constraints in
    subst (RefusesCertificate (state_of c.args.state.now) c.args.limit written) (sym c.refusal_of.ensures)
    (certificate_stopped c.args.state.now later written c.requires.session c.requires.numbered c.requires.constraints c.in_ok-constraints.ensures.ready c.constraints_of.ensures.kept
    (map number_of c.deref-2.result.now) (map constraint_of c.deref.result.now) named read c.args.limit c.in-Err.error c.in-Err.ensures.answered)
