use Rattle.std.proofs.Common.{◌≡◌, subst, sym, ◌≤◌, length}
use Rattle.std.specs.List.{AllByRecursion}
use Rattle.logic_meaning.specs.Replaced.{replaced}
use Rattle.logic_meaning.specs.Quantified.{has_quantifier}
use Rattle.formula_resolving.specs.BoundIds.{answered_trees}
use Rattle.language_meaning.specs.Causes.{atom_in_place}
use Rattle.language_meaning.specs.Holes.{command_count}
use Rattle.written_syntax.specs.CodeTrees.{inner_of}
use Rattle.formula_store.specs.Nodes.{tree, IsId}
use Rattle.session_state.specs.Scripted.{answered_tree}
use Rattle.form_commands.proofs.reading.holds_quantifier.Goals as goal

pub is_quantified-requires-clause-ids : goal.is_quantified-requires-clause-ids
is_quantified-requires-clause-ids c = c.requires.ids.bound

pub is_quantified-requires-clause-answers : goal.is_quantified-requires-clause-answers
is_quantified-requires-clause-answers c = subst (AllByRecursion (IsId c.args.state.now.store)) (sym c.deref.ensures.value) c.requires.ids.answers

pub is_quantified-requires-clause-places : goal.is_quantified-requires-clause-places
is_quantified-requires-clause-places c = subst (λ ids. command_count (inner_of c.args.formula.now) ≤ length ids) (sym c.deref.ensures.value) c.requires.answers.places

pub returns : goal.returns
returns c =
    let d = c.args.state.now in
    subst (λ ids. c.is_quantified.result ≡ has_quantifier (replaced (atom_in_place (answered_trees (tree d.store) ids d.bindings)) (λ x. 0) (answered_tree c.args.formula.now))) c.deref.ensures.value c.is_quantified.ensures
