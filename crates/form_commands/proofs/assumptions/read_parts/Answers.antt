use Rattle.logic_meaning.specs.Formula.{also}
use Rattle.std.proofs.Common.{◌≡◌, sym, subst, rules, map, Err}
use Rattle.std.specs.Prelude.{IfErr, IfOk}
use Rattle.std.specs.List.{AllByRecursion}
use Rattle.language_meaning.specs.Trees.{formulas_of}
use Rattle.written_syntax.specs.CodeTrees.{formula_tree}
use Rattle.formula_store.specs.Nodes.{IsId}
use Rattle.session_state.specs.Keeping.{state_of}
use Rattle.session_state.specs.Scripted.{answered_tree}
use Rattle.form_commands.specs.Reading.{HasNumbers, AreUnread, IsReadUnder}
use Rattle.form_commands.proofs.PartLemmas.{each_listed}
use Rattle.form_commands.proofs.AssumptionLemmas.{memory_unread}
use Rattle.form_commands.proofs.PlainFormulas.{answers_stay}
use Rattle.form_commands.proofs.MadeLemmas.{parts_read, parts_refused}
use Rattle.session_state.proofs.StateLemmas.{kept_ids, keeps_then}
use Rattle.form_commands.proofs.assumptions.read_parts.Goals as goal

pub read_given-requires-clause-numbered : goal.read_given-requires-clause-numbered
read_given-requires-clause-numbered c = (each_listed (HasNumbers c.args.state.now.names) (answered_tree c.args.formula.now) c.args.given.now c.requires.numbered).1

pub returns-in_err-stop-clause-unread : goal.returns-in_err-stop-clause-unread
returns-in_err-stop-clause-unread c =
    let s = state_of c.args.state.now in
    let fs = also (answered_tree c.args.formula.now) (formulas_of (map formula_tree c.args.given.now)) in
    let e : c.from_residual.result ≡ Err c.in_err-stop.field-0.0 = search rules in
    subst (λ r. IfErr r (AreUnread s fs)) (sym e) (memory_unread s fs c.in_err-stop.field-0.0 c.in_err-stop.ensures.memory)

pub read_under-requires-clause-ids : goal.read_under-requires-clause-ids
read_under-requires-clause-ids c = kept_ids c.args.state.now c.read_given.new.state c.requires.ids c.read_given.ensures.kept

pub read_under-requires-clause-numbered : goal.read_under-requires-clause-numbered
read_under-requires-clause-numbered c =
    subst (λ ns. HasNumbers ns (answered_tree c.args.formula.now)) (sym c.read_given.ensures.kept.names)
    (each_listed (HasNumbers c.args.state.now.names) (answered_tree c.args.formula.now) c.args.given.now c.requires.numbered).0

pub read_under-requires-clause-given : goal.read_under-requires-clause-given
read_under-requires-clause-given c = λ e. subst (AllByRecursion (IsId c.read_given.new.state.store)) (sym c.deref.ensures.value) (c.in_ok-stop.ensures.made e).are

pub returns-clause-read : goal.returns-clause-read
returns-clause-read c =
    parts_read c.args.state.now c.read_given.new.state c.requires.ids c.read_given.ensures.kept c.read_under.new.state c.read_under.ensures.kept (answered_tree c.args.formula.now) c.args.given.now
    c.in_ok-stop.stop c.read_given.new.ids.items c.in_ok-stop.ensures.first c.in_ok-stop.ensures.made c.read_under.result
    (subst (λ ids. IfOk c.read_under.result (IsReadUnder (state_of c.read_given.new.state) (answered_tree c.args.formula.now) c.in_ok-stop.stop ids c.read_under.new.state)) c.deref.ensures.value c.read_under.ensures.read)

pub returns-clause-unread : goal.returns-clause-unread
returns-clause-unread c =
    parts_refused c.args.state.now c.read_given.new.state c.requires.ids c.read_given.ensures.kept (answered_tree c.args.formula.now) c.args.given.now
    c.in_ok-stop.stop c.in_ok-stop.ensures.first c.read_under.result c.read_under.ensures.unread

pub returns-clause-kept : goal.returns-clause-kept
returns-clause-kept c = keeps_then c.args.state.now c.read_given.new.state c.read_under.new.state c.read_given.ensures.kept c.read_under.ensures.kept

pub read_under-requires-clause-answers : goal.read_under-requires-clause-answers
read_under-requires-clause-answers c = answers_stay c.args.state.now c.read_given.new.state c.read_given.ensures.kept c.args.formula.now c.requires.answers
