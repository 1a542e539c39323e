use Rattle.std.proofs.Common.{◌≡◌, ◌≤◌, ◌-◌, None, Err, map, take, ap, sym, ◌∙◌, subst, rules}
use Rattle.std.specs.Prelude.{IfErr}
use Rattle.formula_store.specs.Nodes.{tree}
use Rattle.written_syntax.specs.Proper.{IsProperFormula}
use Rattle.language_meaning.specs.Trees.{formulas_of}
use Rattle.written_syntax.specs.CodeTrees.{term_tree, formula_tree}
use Rattle.language_meaning.specs.Statements.{Least}
use Rattle.session_state.specs.Numbered.{numbered}
use Rattle.program_meaning.specs.Meaning.{meaning}
use Rattle.session_state.specs.Keeping.{state_of}
use Rattle.session_state.proofs.StateLemmas.{grows_then}
use Rattle.form_commands.specs.Replies.{use_of, Refuses}
use Rattle.least_search.specs.Found.{found_of, IsTargetFound}
use Rattle.constraint_queries.specs.Found.{FoundStop}
use Rattle.constraint_queries.proofs.ProblemSteps.{problem_proper}
use Rattle.constraint_queries.proofs.LeastSteps.{unread_refuses, asked, on_err, normal_there, weak_there, some_there, stop_refuses, within_there, short_there, line_told, session_final, state_final, back_final}
use Rattle.constraint_queries.proofs.least.answer_least.Goals as goal

pub read-requires-clause-proper : goal.read-requires-clause-proper
read-requires-clause-proper g c =
    subst IsProperFormula (sym c.in-Ok.ensures.tree) (problem_proper (formulas_of (map formula_tree c.args.written.now)) (term_tree c.args.target.now) c.requires.proper c.requires.target)

pub returns-in_err-id-clause-refused : goal.returns-in_err-id-clause-refused
returns-in_err-id-clause-refused g c =
    let written = formulas_of (map formula_tree c.args.written.now) in
    let target = term_tree c.args.target.now in
    let limit = c.args.workshop.now.limits.nodes in
    let e : c.from_residual.result ≡ Err c.in_err-id.field-0.0 = search rules in
    subst (λ r. IfErr r (Refuses (numbered (meaning (Least written target)) (state_of c.args.state.now)) limit (use_of None c.args.printed) (Least written target))) (sym e)
    (unread_refuses (state_of c.args.state.now) written target (formula_tree c.in-Ok.problem) c.in-Ok.ensures.tree limit c.args.printed c.in_err-id.field-0.0 c.in_err-id.ensures.unread)

pub overflow_sub-last : goal.overflow_sub-last
overflow_sub-last g c =
    let old = c.args.state.now in
    let mid = c.read.new.state in
    let written = formulas_of (map formula_tree c.args.written.now) in
    let target = term_tree c.args.target.now in
    let a = asked old mid written target (formula_tree c.in-Ok.problem) c.in_ok-id.id c.in-Ok.ensures.tree c.requires.session c.requires.proper c.requires.weak c.requires.target c.in_ok-id.ensures.grown c.in_ok-id.ensures.read in
    subst (λ n. 1 ≤ n) (sym c.count-last.ensures) (some_there old mid written target c.in_ok-id.id a)

pub look-requires-clause-normal : goal.look-requires-clause-normal
look-requires-clause-normal g c κs within =
    let old = c.args.state.now in
    let mid = c.read.new.state in
    let written = formulas_of (map formula_tree c.args.written.now) in
    let target = term_tree c.args.target.now in
    let a = asked old mid written target (formula_tree c.in-Ok.problem) c.in_ok-id.id c.in-Ok.ensures.tree c.requires.session c.requires.proper c.requires.weak c.requires.target c.in_ok-id.ensures.grown c.in_ok-id.ensures.read in
    normal_there old mid written target c.in_ok-id.id a

pub look-requires-clause-weak : goal.look-requires-clause-weak
look-requires-clause-weak g c κs within =
    let old = c.args.state.now in
    let mid = c.read.new.state in
    let written = formulas_of (map formula_tree c.args.written.now) in
    let target = term_tree c.args.target.now in
    let a = asked old mid written target (formula_tree c.in-Ok.problem) c.in_ok-id.id c.in-Ok.ensures.tree c.requires.session c.requires.proper c.requires.weak c.requires.target c.in_ok-id.ensures.grown c.in_ok-id.ensures.read in
    weak_there old mid written target c.in_ok-id.id a

pub returns-in_err-found-clause-refused : goal.returns-in_err-found-clause-refused
returns-in_err-found-clause-refused g c =
    let old = c.args.state.now in
    let mid = c.read.new.state in
    let written = formulas_of (map formula_tree c.args.written.now) in
    let target = term_tree c.args.target.now in
    let a = asked old mid written target (formula_tree c.in-Ok.problem) c.in_ok-id.id c.in-Ok.ensures.tree c.requires.session c.requires.proper c.requires.weak c.requires.target c.in_ok-id.ensures.grown c.in_ok-id.ensures.read in
    let limit = c.args.workshop.now.limits.nodes in
    let stop = subst (λ n. FoundStop limit (n - 1) (tree mid.store c.in_ok-id.id) c.in_err-found.field-0.0) c.count-last.ensures c.in_err-found.ensures.stopped in
    let e : c.from_residual-in_err-found.result ≡ Err c.in_err-found.field-0.0 = search rules in
    subst (λ r. IfErr r (Refuses (numbered (meaning (Least written target)) (state_of old)) limit (use_of None c.args.printed) (Least written target))) (sym e)
    (stop_refuses old mid written target c.in_ok-id.id a limit c.args.printed c.in_err-found.field-0.0 stop)

pub returns-in_err-found-clause-grown : goal.returns-in_err-found-clause-grown
returns-in_err-found-clause-grown g c = on_err c.from_residual-in_err-found.result (grows_then c.args.state.now c.read.new.state c.look.new.state c.in_ok-id.ensures.grown c.in_err-found.ensures.kept)

pub target_line-requires-clause-within : goal.target_line-requires-clause-within
target_line-requires-clause-within g c =
    let old = c.args.state.now in
    let mid = c.read.new.state in
    let written = formulas_of (map formula_tree c.args.written.now) in
    let target = term_tree c.args.target.now in
    let a = asked old mid written target (formula_tree c.in-Ok.problem) c.in_ok-id.id c.in-Ok.ensures.tree c.requires.session c.requires.proper c.requires.weak c.requires.target c.in_ok-id.ensures.grown c.in_ok-id.ensures.read in
    let later = c.look.new.state in
    let k = c.in_ok-found.ensures.kept in
    let found = subst (λ n. IsTargetFound (n - 1) (tree mid.store c.in_ok-id.id) (found_of c.in_ok-found.found)) c.count-last.ensures c.in_ok-found.ensures.found in
    within_there old mid written target c.in_ok-id.id a c.in_ok-found.found found later k

pub target_line-requires-clause-short : goal.target_line-requires-clause-short
target_line-requires-clause-short g c =
    let old = c.args.state.now in
    let mid = c.read.new.state in
    let written = formulas_of (map formula_tree c.args.written.now) in
    let target = term_tree c.args.target.now in
    let a = asked old mid written target (formula_tree c.in-Ok.problem) c.in_ok-id.id c.in-Ok.ensures.tree c.requires.session c.requires.proper c.requires.weak c.requires.target c.in_ok-id.ensures.grown c.in_ok-id.ensures.read in
    let later = c.look.new.state in
    let k = c.in_ok-found.ensures.kept in
    let found = subst (λ n. IsTargetFound (n - 1) (tree mid.store c.in_ok-id.id) (found_of c.in_ok-found.found)) c.count-last.ensures c.in_ok-found.ensures.found in
    short_there old mid written target c.in_ok-id.id a c.in_ok-found.found found later k

pub returns-in_err-line-clause-grown : goal.returns-in_err-line-clause-grown
returns-in_err-line-clause-grown g c = on_err c.from_residual-in_err-line.result (grows_then c.args.state.now c.read.new.state c.look.new.state c.in_ok-id.ensures.grown c.in_ok-found.ensures.kept)

pub returns-clause-session : goal.returns-clause-session
returns-clause-session g c =
    let old = c.args.state.now in
    let mid = c.read.new.state in
    let written = formulas_of (map formula_tree c.args.written.now) in
    let target = term_tree c.args.target.now in
    let a = asked old mid written target (formula_tree c.in-Ok.problem) c.in_ok-id.id c.in-Ok.ensures.tree c.requires.session c.requires.proper c.requires.weak c.requires.target c.in_ok-id.ensures.grown c.in_ok-id.ensures.read in
    let later = c.look.new.state in
    let k = c.in_ok-found.ensures.kept in
    let kept = c.keep_first.ensures ∙ ap (λ n. take (n - 1) later.names) c.count-last.ensures in
    session_final old mid written target c.in_ok-id.id a later k c.keep_first.new.self kept

pub returns-clause-answer : goal.returns-clause-answer
returns-clause-answer g c =
    let old = c.args.state.now in
    let mid = c.read.new.state in
    let written = formulas_of (map formula_tree c.args.written.now) in
    let target = term_tree c.args.target.now in
    let a = asked old mid written target (formula_tree c.in-Ok.problem) c.in_ok-id.id c.in-Ok.ensures.tree c.requires.session c.requires.proper c.requires.weak c.requires.target c.in_ok-id.ensures.grown c.in_ok-id.ensures.read in
    let later = c.look.new.state in
    let k = c.in_ok-found.ensures.kept in
    let found = subst (λ n. IsTargetFound (n - 1) (tree mid.store c.in_ok-id.id) (found_of c.in_ok-found.found)) c.count-last.ensures c.in_ok-found.ensures.found in
    line_told old mid written target c.in_ok-id.id a c.in_ok-found.found found later k c.args.workshop.now.limits.nodes c.args.printed c.in_ok-line.line c.keep_first.new.self c.in_ok-line.ensures.line

pub returns-clause-next : goal.returns-clause-next
returns-clause-next g c =
    let old = c.args.state.now in
    let mid = c.read.new.state in
    let written = formulas_of (map formula_tree c.args.written.now) in
    let target = term_tree c.args.target.now in
    let a = asked old mid written target (formula_tree c.in-Ok.problem) c.in_ok-id.id c.in-Ok.ensures.tree c.requires.session c.requires.proper c.requires.weak c.requires.target c.in_ok-id.ensures.grown c.in_ok-id.ensures.read in
    let later = c.look.new.state in
    let k = c.in_ok-found.ensures.kept in
    let kept = c.keep_first.ensures ∙ ap (λ n. take (n - 1) later.names) c.count-last.ensures in
    state_final old mid written target c.in_ok-id.id a later k c.keep_first.new.self kept

pub returns-clause-given_back : goal.returns-clause-given_back
returns-clause-given_back g c =
    let old = c.args.state.now in
    let mid = c.read.new.state in
    let written = formulas_of (map formula_tree c.args.written.now) in
    let target = term_tree c.args.target.now in
    let a = asked old mid written target (formula_tree c.in-Ok.problem) c.in_ok-id.id c.in-Ok.ensures.tree c.requires.session c.requires.proper c.requires.weak c.requires.target c.in_ok-id.ensures.grown c.in_ok-id.ensures.read in
    let later = c.look.new.state in
    let k = c.in_ok-found.ensures.kept in
    let kept = c.keep_first.ensures ∙ ap (λ n. take (n - 1) later.names) c.count-last.ensures in
    back_final old mid written target c.in_ok-id.id a later k c.keep_first.new.self kept
