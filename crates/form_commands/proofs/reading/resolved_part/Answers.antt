use Rattle.std.proofs.Common.{subst, sym, refl, ◌≤◌, length}
use Rattle.std.specs.Prelude.{IfOk, IfErr, OnOk}
use Rattle.std.specs.List.{AllByRecursion}
use Rattle.formula_tree.specs.Makers.{IsMade}
use Rattle.language_meaning.specs.Holes.{command_count}
use Rattle.written_syntax.specs.CodeTrees.{inner_of}
use Rattle.formula_resolving.specs.BoundIds.{answered_trees}
use Rattle.formula_resolving.specs.FirstCause.{IsFirstCause}
use Rattle.formula_resolving.proofs.HoleNames.{proper_named}
use Rattle.resolved_formulas.specs.Accepted.{IsAccepted}
use Rattle.language_meaning.specs.Resolving.{resolve}
use Rattle.formula_store.specs.Nodes.{tree, IsId}
use Rattle.session_state.specs.Keeping.{state_of}
use Rattle.session_state.specs.Scripted.{answered_tree}
use Rattle.form_commands.proofs.PlainFormulas.{names_kept}
use Rattle.form_commands.proofs.reading.resolved_part.Goals as goal

pub linearise-requires-clause-proper : goal.linearise-requires-clause-proper
linearise-requires-clause-proper c = proper_named c.args.formula.now 0 c.requires.answers.scripted.proper

pub linearise-requires-clause-answers : goal.linearise-requires-clause-answers
linearise-requires-clause-answers c = subst (AllByRecursion (IsId c.args.state.now.store)) (sym c.deref.ensures.value) c.requires.ids.answers

pub linearise-requires-clause-places : goal.linearise-requires-clause-places
linearise-requires-clause-places c = subst (λ ids. command_count (inner_of c.args.formula.now) ≤ length ids) (sym c.deref.ensures.value) c.requires.answers.places

pub returns-clause-made : goal.returns-clause-made
returns-clause-made c =
    let d = c.args.state.now in
    let s = state_of d in
    let new = c.linearise.new.maker in
    let f = answered_tree c.args.formula.now in
    subst (λ ids. IfOk c.linearise.result (λ id. IsMade (IsId new) (tree new) id (resolve s.context (answered_trees (tree d.store) ids d.bindings) s.names f))) c.deref.ensures.value
    (subst (λ ns. IfOk c.linearise.result (λ id. IsMade (IsId new) (tree new) id (resolve s.context (answered_trees (tree d.store) c.deref.result.now d.bindings) ns f))) c.requires.numbered c.linearise.ensures.resolved)

pub returns-clause-readable : goal.returns-clause-readable
returns-clause-readable c =
    let d = c.args.state.now in
    subst (λ ids. OnOk c.linearise.result (IsAccepted (state_of d).context (answered_trees (tree d.store) ids d.bindings) d.names (answered_tree c.args.formula.now))) c.deref.ensures.value c.linearise.ensures.accepted

pub returns-clause-unread : goal.returns-clause-unread
returns-clause-unread c =
    let d = c.args.state.now in
    subst (λ ids. IfErr c.linearise.result (IsFirstCause (state_of d).context (answered_trees (tree d.store) ids d.bindings) d.names (answered_tree c.args.formula.now))) c.deref.ensures.value c.linearise.ensures.refused

pub returns-clause-kept : goal.returns-clause-kept
returns-clause-kept c = record {
  context = refl;
  names = names_kept (answered_tree c.args.formula.now) c.args.state.now.names c.requires.numbered c.linearise.result c.linearise.new.names c.linearise.ensures.names c.linearise.ensures.unchanged;
  bindings = refl;
  standing = refl;
  answers = refl;
  store = c.linearise.ensures.kept;
}
