use Rattle.std.proofs.Common.{subst, sym}
use Rattle.std.specs.Prelude.{IfOk, IfErr, OnOk}
use Rattle.formula_tree.specs.Makers.{IsMade}
use Rattle.formula_resolving.specs.FirstCause.{IsFirstCause}
use Rattle.language_meaning.specs.Resolving.{resolve}
use Rattle.formula_store.specs.Nodes.{tree, IsId}
use Rattle.program_meaning.specs.State.{known}
use Rattle.session_state.specs.Keeping.{state_of}
use Rattle.form_commands.specs.Reading.{HasNumbers, IsReadable}
use Rattle.form_commands.proofs.PlainFormulas.{same_named, plain_answers}
use Rattle.form_commands.proofs.reading.resolved_plain.Goals as goal

pub resolved_part-requires-clause-answers : goal.resolved_part-requires-clause-answers
resolved_part-requires-clause-answers c = plain_answers c.args.state.now c.args.formula.now c.requires.proper

pub resolved_part-requires-clause-numbered : goal.resolved_part-requires-clause-numbered
resolved_part-requires-clause-numbered c = subst (HasNumbers c.args.state.now.names) (sym (same_named c.args.formula.now c.requires.proper)) c.requires.numbered

pub returns-clause-made : goal.returns-clause-made
returns-clause-made c =
    let s = state_of c.args.state.now in
    let new = c.resolved_part.new.state.store in
    subst (λ f. IfOk c.resolved_part.result (λ id. IsMade (IsId new) (tree new) id (resolve s.context (known s) s.names f))) (same_named c.args.formula.now c.requires.proper) c.resolved_part.ensures.made

pub returns-clause-readable : goal.returns-clause-readable
returns-clause-readable c = subst (λ f. OnOk c.resolved_part.result (IsReadable (state_of c.args.state.now) f)) (same_named c.args.formula.now c.requires.proper) c.resolved_part.ensures.readable

pub returns-clause-unread : goal.returns-clause-unread
returns-clause-unread c =
    let s = state_of c.args.state.now in
    subst (λ f. IfErr c.resolved_part.result (IsFirstCause s.context (known s) s.names f)) (same_named c.args.formula.now c.requires.proper) c.resolved_part.ensures.unread
