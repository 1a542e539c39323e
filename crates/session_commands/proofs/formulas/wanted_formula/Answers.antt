use Rattle.std.proofs.Common.{◌≡◌, ℕ, List, Bool, Option, Err, length, map, refl, sym, subst, rules}
use Rattle.std.specs.Prelude.{IfErr}
use Rattle.normal_atoms.specs.Atoms.{atom_of}
use Rattle.logic_meaning.specs.Shape.{IsQuantifierFree}
use Rattle.formula_store.specs.Nodes.{tree}
use Rattle.form_commands.specs.Replies.{use_of, Refuses}
use Rattle.session_commands.specs.Steps.{command_of, MayAsk, IsForSize}
use Rattle.session_state.specs.Keeping.{state_of}
use Rattle.session_state.specs.declared.state.SessionState.{SessionState}
use Rattle.session_state.specs.Scripted.{answered_tree}
use Rattle.session_state.proofs.StateLemmas.{keeps_then, keeps_then_grows}
use Rattle.form_commands.specs.Forms.{IsDistributed, HasFormNames}
use Rattle.session_commands.proofs.GivenSteps.{unready_refused, form_refused, read_normal, read_members, read_within, read_free, read_atoms, form_wanted, premised_there, formed_there, unformed_there, keeps_still, keeps_formed}
use Rattle.session_commands.proofs.GivenLemmas.{unready_other, form_other}
use Rattle.session_commands.proofs.formulas.wanted_formula.Goals as goal

pub returns-in_err-read-clause-refused : goal.returns-in_err-read-clause-refused
returns-in_err-read-clause-refused g c =
    let f = answered_tree c.args.formula.now in
    let d = c.args.state.now in
    let w = c.args.wanted in
    let e : c.from_residual.result ≡ Err c.in_err-read.field-0.0 = search rules in
    subst (λ r. IfErr r (λ x. (target : Option (List ℕ)) (printed : Bool) → MayAsk (state_of d) c.args.workshop.now.limits.nodes (use_of target printed) w f → Refuses (state_of d) c.args.workshop.now.limits.nodes (use_of target printed) (command_of w f) x)) (sym e)
    (λ target printed ask. unready_refused w f d c.requires.numbered c.requires.session c.requires.answers.scripted c.args.workshop.now.limits.nodes c.in_err-read.field-0.0 c.in_err-read.ensures.unready target printed)

pub returns-in_err-read-clause-kept : goal.returns-in_err-read-clause-kept
returns-in_err-read-clause-kept g c = keeps_still c.args.wanted c.args.state.now c.read_wanted.new.state c.read_wanted.ensures.kept

pub formed-requires-clause-read : goal.formed-requires-clause-read
formed-requires-clause-read g c _ _ =
    let f = answered_tree c.args.formula.now in
    let d = c.args.state.now in
    let w = c.args.wanted in
    let m = c.read_wanted.new.state in
    let read = c.in_ok-read.read in
    let h = c.in_ok-read.ensures in
    let t = tree m.store read.formula in
    let ks = map atom_of read.atoms.items in
    let kept = c.read_wanted.ensures.kept in
    premised_there m.context c.engine-engine.result.context c.engine-engine.ensures.context (length m.names) m.store read (record {
      id = h.read.made.is;
      normal = read_normal w f d c.requires.numbered c.requires.session c.requires.answers.scripted h.ready m kept t h.read.made.same ks h.read.atoms;
      members = read_members w f d c.requires.numbered c.requires.session c.requires.answers.scripted h.ready m kept t h.read.made.same ks h.read.atoms;
      within = read_within w f d c.requires.numbered c.requires.session c.requires.answers.scripted h.ready m kept t h.read.made.same ks h.read.atoms;
      atoms = read_atoms w f d c.requires.numbered c.requires.session c.requires.answers.scripted h.ready m kept t h.read.made.same ks h.read.atoms c.requires.given;
      well_formed = h.read.well_formed;
    })

pub formed-requires-clause-free : goal.formed-requires-clause-free
formed-requires-clause-free g c _ _ =
    let d = c.args.state.now in
    let m = c.read_wanted.new.state in
    let read = c.in_ok-read.read in
    let h = c.in_ok-read.ensures in
    let free = read_free c.args.wanted (answered_tree c.args.formula.now) d c.requires.numbered c.requires.session c.requires.answers.scripted h.ready m c.read_wanted.ensures.kept (tree m.store read.formula) h.read.made.same (map atom_of read.atoms.items) h.read.atoms in
    subst (λ o. IsDistributed o → IsQuantifierFree (tree m.store read.formula)) (sym c.form-form.ensures) free

pub returns-in-Ok-clause-wanted : goal.returns-in-Ok-clause-wanted
returns-in-Ok-clause-wanted g c =
    let d = c.args.state.now in
    let m = c.read_wanted.new.state in
    let read = c.in_ok-read.read in
    let h = c.in_ok-read.ensures in
    let ks = map atom_of read.atoms.items in
    let t = tree m.store read.formula in
    let made = formed_there m.context c.engine-engine.result.context c.engine-engine.ensures.context c.args.workshop.now.limits c.engine-engine.result.limits c.engine-engine.ensures.limits
    ks _ _ c.form-form.ensures m.names t c.formed.new.names c.formed.new.store c.in-Ok.id c.in-Ok.ensures.formed in
    form_wanted c.args.wanted (answered_tree c.args.formula.now) d c.requires.numbered c.requires.session c.requires.answers.scripted h.ready m c.read_wanted.ensures.kept t h.read.made.same ks h.read.atoms
    c.args.workshop.now.limits.nodes (tree c.formed.new.store c.in-Ok.id) c.formed.new.names made.is made.names_after

pub returns-clause-refused : goal.returns-clause-refused
returns-clause-refused g c =
    let d = c.args.state.now in
    let f = answered_tree c.args.formula.now in
    let w = c.args.wanted in
    let m = c.read_wanted.new.state in
    let read = c.in_ok-read.read in
    let h = c.in_ok-read.ensures in
    let t = tree m.store read.formula in
    let fault = unformed_there m.context c.engine-engine.result.context c.engine-engine.ensures.context c.args.workshop.now.limits c.engine-engine.result.limits c.engine-engine.ensures.limits
    (length m.names) _ _ c.form-form.ensures t c.in-Err.error c.in-Err.ensures.fault in
    subst (λ e. (target : Option (List ℕ)) (printed : Bool) → MayAsk (state_of d) c.args.workshop.now.limits.nodes (use_of target printed) w f → Refuses (state_of d) c.args.workshop.now.limits.nodes (use_of target printed) (command_of w f) e) (sym c.forms_refusal.ensures)
    (form_refused w f d c.requires.numbered c.requires.session c.requires.answers.scripted h.ready m c.read_wanted.ensures.kept t h.read.made.same (map atom_of read.atoms.items) h.read.atoms c.args.workshop.now.limits.nodes c.in-Err.error fault)

pub returns-in_err-read-clause-other : goal.returns-in_err-read-clause-other
returns-in_err-read-clause-other g c =
    let e : c.from_residual.result ≡ Err c.in_err-read.field-0.0 = search rules in
    subst (λ r. IfErr r (λ x. ¬ (IsForSize x))) (sym e) (unready_other (state_of c.args.state.now) c.args.wanted (answered_tree c.args.formula.now) c.in_err-read.field-0.0 c.in_err-read.ensures.unready)

pub returns-clause-other : goal.returns-clause-other
returns-clause-other g c = subst (λ x. ¬ (IsForSize x)) (sym c.forms_refusal.ensures) (form_other c.in-Err.error)

pub returns-in-Ok-clause-grown : goal.returns-in-Ok-clause-grown
returns-in-Ok-clause-grown g c =
    let m = c.read_wanted.new.state in
    let later : SessionState = record { alloc = m.alloc; context = m.context; names = c.formed.new.names; bindings = m.bindings; standing = m.standing; answers = m.answers; store = c.formed.new.store; kept = m.kept } in
    keeps_then_grows c.args.state.now m later c.read_wanted.ensures.kept (record { context = refl; names = c.formed.ensures.grown; bindings = refl; standing = refl; answers = refl; store = c.formed.ensures.kept })

pub returns-clause-grown : goal.returns-clause-grown
returns-clause-grown g c =
    let m = c.read_wanted.new.state in
    let later : SessionState = record { alloc = m.alloc; context = m.context; names = c.formed.new.names; bindings = m.bindings; standing = m.standing; answers = m.answers; store = c.formed.new.store; kept = m.kept } in
    keeps_then_grows c.args.state.now m later c.read_wanted.ensures.kept (record { context = refl; names = c.formed.ensures.grown; bindings = refl; standing = refl; answers = refl; store = c.formed.ensures.kept })

pub returns-in-Ok-clause-kept : goal.returns-in-Ok-clause-kept
returns-in-Ok-clause-kept g c =
    let m = c.read_wanted.new.state in
    let read = c.in_ok-read.read in
    let later : SessionState = record { alloc = m.alloc; context = m.context; names = c.formed.new.names; bindings = m.bindings; standing = m.standing; answers = m.answers; store = c.formed.new.store; kept = m.kept } in
    let names = subst (λ o. HasFormNames o m.names (tree m.store read.formula) c.formed.new.names) c.form-form.ensures c.in-Ok.ensures.formed.names_after in
    keeps_formed c.args.wanted c.args.state.now m later (tree m.store read.formula) c.read_wanted.ensures.kept (record { context = refl; names = c.formed.ensures.grown; bindings = refl; standing = refl; answers = refl; store = c.formed.ensures.kept }) names

pub returns-clause-kept : goal.returns-clause-kept
returns-clause-kept g c =
    let m = c.read_wanted.new.state in
    let later : SessionState = record { alloc = m.alloc; context = m.context; names = c.formed.new.names; bindings = m.bindings; standing = m.standing; answers = m.answers; store = c.formed.new.store; kept = m.kept } in
    keeps_still c.args.wanted c.args.state.now later
    (keeps_then c.args.state.now m later c.read_wanted.ensures.kept (record { context = refl; names = c.in-Err.ensures.unchanged; bindings = refl; standing = refl; answers = refl; store = c.formed.ensures.kept }))
