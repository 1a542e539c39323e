use Rattle.session_state.specs.declared.state.SessionState.{SessionState}
use Rattle.session_state.specs.Keeping.{state_of}
use Rattle.session_state.specs.Scripted.{answered_tree}
use Rattle.session_state.proofs.StateLemmas.{keeps_then}
use Rattle.std.proofs.Common.{◌≡◌, Bool, None, refl, sym, ap, ◌∙◌, subst, rules, map, Err}
use Rattle.std.specs.Prelude.{Result, IfErr}
use Rattle.std.specs.declared.vec.Vec.{Vec}
use Rattle.std.specs.declared.alloc.Global.{Global}
use Rattle.normal_atoms.specs.Atoms.{atom_of, context_of}
use Rattle.form_commands.specs.FromEngineAnswers.{Limits}
use Rattle.formula_store.specs.Nodes.{tree}
use Rattle.reference_engine.specs.declared.cases.PrintedCase.{PrintedCase}
use Rattle.reference_engine.specs.Case.{case_seen}
use Rattle.language_meaning.specs.Statements.{Qea}
use Rattle.language_meaning.specs.Trees.{formulas_of}
use Rattle.written_syntax.specs.CodeTrees.{formula_tree}
use Rattle.program_meaning.specs.declared.line.StatementError.{StatementError}
use Rattle.form_commands.specs.Replies.{use_of, Refuses}
use Rattle.form_commands.proofs.ReadLemmas.{proper_items}
use Rattle.point_queries.proofs.CaseSteps.{normal_there, atoms_there, found_there, stopped_there, unread_there}
use Rattle.point_queries.proofs.cases.cases_of.Goals as goal

pub read_parts-requires-clause-proper_given : goal.read_parts-requires-clause-proper_given
read_parts-requires-clause-proper_given g c = proper_items c.args.given.now c.requires.given

pub returns-in_err-read-clause-refused : goal.returns-in_err-read-clause-refused
returns-in_err-read-clause-refused g c =
    let s = state_of c.args.state.now in
    let f = answered_tree c.args.formula.now in
    let gs = formulas_of (map formula_tree c.args.given.now) in
    let e : c.from_residual.result ≡ Err c.in_err-read.field-0.0 = search rules in
    let stop : Result (Vec PrintedCase Global) StatementError = Err c.in_err-read.field-0.0 in
    subst (λ r. IfErr r (λ e. (printed : Bool) → Refuses s c.args.workshop.now.limits.nodes (use_of None printed) (Qea f gs) e)) (sym e)
    (unread_there stop s f gs c.requires.numbered c.args.workshop.now.limits.nodes c.in_err-read.ensures.unread)

pub wanted_cases-requires-clause-normal : goal.wanted_cases-requires-clause-normal
wanted_cases-requires-clause-normal g c _ _ =
    normal_there c.args.state.now (answered_tree c.args.formula.now) (formulas_of (map formula_tree c.args.given.now)) c.requires.session c.requires.numbered c.in_ok-read.ensures.read.readable
    c.requires.answers.scripted c.requires.given (context_of c.engine-engine.result.context) (ap context_of (c.engine-engine.ensures.context ∙ c.read_parts.ensures.kept.context))
    (tree c.read_parts.new.state.store c.in_ok-read.read.formula) c.in_ok-read.ensures.read.made.same

pub wanted_cases-requires-clause-atoms : goal.wanted_cases-requires-clause-atoms
wanted_cases-requires-clause-atoms g c _ _ =
    atoms_there c.args.state.now (answered_tree c.args.formula.now) (formulas_of (map formula_tree c.args.given.now)) c.requires.session c.requires.numbered c.in_ok-read.ensures.read.readable
    c.requires.answers.scripted c.requires.given (context_of c.engine-engine.result.context) (ap context_of (c.engine-engine.ensures.context ∙ c.read_parts.ensures.kept.context))
    (tree c.read_parts.new.state.store c.in_ok-read.read.formula) c.in_ok-read.ensures.read.made.same (map atom_of c.in_ok-read.read.atoms.items) c.in_ok-read.ensures.read.atoms

pub returns-in-Ok-clause-cases : goal.returns-in-Ok-clause-cases
returns-in-Ok-clause-cases g c =
    found_there c.args.state.now (answered_tree c.args.formula.now) (formulas_of (map formula_tree c.args.given.now)) c.requires.session c.requires.numbered c.in_ok-read.ensures.read.readable
    c.requires.answers.scripted c.requires.given (context_of c.engine-engine.result.context) (ap context_of (c.engine-engine.ensures.context ∙ c.read_parts.ensures.kept.context))
    (tree c.read_parts.new.state.store c.in_ok-read.read.formula) c.in_ok-read.ensures.read.made.same (map atom_of c.in_ok-read.read.atoms.items) c.in_ok-read.ensures.read.atoms
    c.args.way c.args.workshop.now.limits.nodes c.engine-engine.result.limits.nodes (ap (λ (l : Limits). l.nodes) c.engine-engine.ensures.limits) (map case_seen c.in-Ok.cases.items) c.in-Ok.ensures.cases

pub returns-clause-refused : goal.returns-clause-refused
returns-clause-refused g c =
    let s = state_of c.args.state.now in
    let f = answered_tree c.args.formula.now in
    let gs = formulas_of (map formula_tree c.args.given.now) in
    subst (λ e. (printed : Bool) → Refuses s c.args.workshop.now.limits.nodes (use_of None printed) (Qea f gs) e) (sym c.forms_refusal.ensures)
    (stopped_there c.args.state.now (answered_tree c.args.formula.now) (formulas_of (map formula_tree c.args.given.now)) c.requires.session c.requires.numbered c.in_ok-read.ensures.read.readable
    c.requires.answers.scripted c.requires.given (context_of c.engine-engine.result.context) (ap context_of (c.engine-engine.ensures.context ∙ c.read_parts.ensures.kept.context))
    (tree c.read_parts.new.state.store c.in_ok-read.read.formula) c.in_ok-read.ensures.read.made.same
    c.args.workshop.now.limits.nodes c.engine-engine.result.limits.nodes (ap (λ (l : Limits). l.nodes) c.engine-engine.ensures.limits) c.in-Err.error c.in-Err.ensures.fault)

pub returns-in-Ok-clause-kept : goal.returns-in-Ok-clause-kept
returns-in-Ok-clause-kept g c =
    let m = c.read_parts.new.state in
    let later : SessionState = record { alloc = m.alloc; context = m.context; names = m.names; bindings = m.bindings; standing = m.standing; answers = m.answers; store = c.wanted_cases.new.store; kept = m.kept } in
    keeps_then c.args.state.now m later c.read_parts.ensures.kept (record { context = refl; names = refl; bindings = refl; standing = refl; answers = refl; store = c.wanted_cases.ensures.kept })

pub returns-clause-kept : goal.returns-clause-kept
returns-clause-kept g c =
    let m = c.read_parts.new.state in
    let later : SessionState = record { alloc = m.alloc; context = m.context; names = m.names; bindings = m.bindings; standing = m.standing; answers = m.answers; store = c.wanted_cases.new.store; kept = m.kept } in
    keeps_then c.args.state.now m later c.read_parts.ensures.kept (record { context = refl; names = refl; bindings = refl; standing = refl; answers = refl; store = c.wanted_cases.ensures.kept })

pub returns-in-Ok-clause-readable : goal.returns-in-Ok-clause-readable
returns-in-Ok-clause-readable g c = c.in_ok-read.ensures.read.readable

pub wanted_cases-requires-clause-id : goal.wanted_cases-requires-clause-id
wanted_cases-requires-clause-id g c _ _ = c.in_ok-read.ensures.read.made.is

pub wanted_cases-requires-clause-well_formed : goal.wanted_cases-requires-clause-well_formed
wanted_cases-requires-clause-well_formed g c _ _ = c.in_ok-read.ensures.read.well_formed
