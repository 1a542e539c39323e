use Rattle.std.proofs.Common.{inl, refl, sym, ap, ◌∙◌, subst, rules, arith}
use Rattle.std.specs.List.{AllByRecursion}
use Rattle.normal_atoms.specs.Atoms.{context_of}
use Rattle.formula_tree.specs.Makers.{IsMade}
use Rattle.formula_resolving.specs.BoundIds.{answered_trees}
use Rattle.formula_resolving.specs.FirstCause.{IsFirstCause}
use Rattle.resolved_formulas.specs.Accepted.{IsAccepted}
use Rattle.formula_store.specs.Nodes.{tree, IsId}
use Rattle.language_meaning.specs.NamesAfter.{names_after}
use Rattle.language_meaning.specs.Resolving.{resolve, formula_variables}
use Rattle.program_meaning.specs.State.{known}
use Rattle.session_state.specs.Keeping.{state_of}
use Rattle.form_commands.specs.Reading.{IsReadable}
use Rattle.formula_resolving.specs.Numbering.{Grows}
use Rattle.language_meaning.specs.Holes.{command_count}
use Rattle.written_syntax.specs.CodeTrees.{formula_tree, named_tree}
use Rattle.written_syntax.proofs.Alone.{still}
use Rattle.constraint_queries.proofs.ProblemNames.{grows_all}
use Rattle.constraint_queries.proofs.least.read.Goals as goal

pub linearise-read-requires-clause-answers : goal.linearise-read-requires-clause-answers
linearise-read-requires-clause-answers c = subst (AllByRecursion (IsId c.args.state.now.store)) (sym c.deref.ensures.value) c.requires.ids.answers

pub linearise-read-requires-clause-places : goal.linearise-read-requires-clause-places
linearise-read-requires-clause-places c = let e = ap command_count c.requires.plain in omega (arith, e)

pub returns-in_err-check_fields-in-Ok-clause-grown : goal.returns-in_err-check_fields-in-Ok-clause-grown
returns-in_err-check_fields-in-Ok-clause-grown c = record {
  context = refl;
  names = subst (Grows c.args.state.now.names) (sym c.in-Ok.ensures.names) (grows_all (formula_variables (named_tree 0 c.args.problem.now)) c.args.state.now.names);
  bindings = refl;
  standing = refl;
  answers = refl;
  store = c.in-Ok.ensures.kept;
}

pub returns-in_ok-check_fields-in-Ok-clause-grown : goal.returns-in_ok-check_fields-in-Ok-clause-grown
returns-in_ok-check_fields-in-Ok-clause-grown c = record {
  context = refl;
  names = subst (Grows c.args.state.now.names) (sym c.in-Ok.ensures.names) (grows_all (formula_variables (named_tree 0 c.args.problem.now)) c.args.state.now.names);
  bindings = refl;
  standing = refl;
  answers = refl;
  store = c.in-Ok.ensures.kept;
}

pub returns-in_err-check_fields-in-Ok-clause-unread : goal.returns-in_err-check_fields-in-Ok-clause-unread
returns-in_err-check_fields-in-Ok-clause-unread c =
    let s = c.args.state.now in
    let there = subst (λ ids. IsAccepted (context_of s.context) (answered_trees (tree s.store) ids s.bindings) s.names (named_tree 0 c.args.problem.now)) c.deref.ensures.value c.in-Ok.ensures.accepted in
    let readable : IsReadable (state_of s) (formula_tree c.args.problem.now) = subst (IsReadable (state_of s)) (still c.args.problem.now c.requires.plain 0) there in
    search rules

pub returns-in_ok-check_fields-in-Ok-clause-read : goal.returns-in_ok-check_fields-in-Ok-clause-read
returns-in_ok-check_fields-in-Ok-clause-read c =
    let s = c.args.state.now in
    let new = c.linearise-read.new in
    let written = named_tree 0 c.args.problem.now in
    let same = still c.args.problem.now c.requires.plain 0 in
    let there = subst (λ ids. IsAccepted (context_of s.context) (answered_trees (tree s.store) ids s.bindings) s.names written) c.deref.ensures.value c.in-Ok.ensures.accepted in
    let made = subst (λ ids. IsMade (IsId new.maker) (tree new.maker) c.in-Ok.id (resolve (context_of s.context) (answered_trees (tree s.store) ids s.bindings) (names_after s.names written) written)) c.deref.ensures.value c.in-Ok.ensures.resolved in
    record {
      readable = subst (IsReadable (state_of s)) same there;
      fields = c.in_ok-check_fields-in-Ok.ensures.fields;
      names = c.in-Ok.ensures.names ∙ ap (names_after s.names) same;
      made = subst (λ g. IsMade (IsId new.maker) (tree new.maker) c.in-Ok.id (resolve (context_of s.context) (known (state_of s)) (names_after s.names g) g)) same made;
    }

pub returns-in-Err-clause-unread : goal.returns-in-Err-clause-unread
returns-in-Err-clause-unread c =
    let s = c.args.state.now in
    let there = subst (λ ids. IsFirstCause (context_of s.context) (answered_trees (tree s.store) ids s.bindings) s.names (named_tree 0 c.args.problem.now) c.in-Err.error) c.deref.ensures.value c.in-Err.ensures.refused in
    inl (c.in-Err.error, c.cause.ensures, subst (λ g. IsFirstCause (context_of s.context) (known (state_of s)) s.names g c.in-Err.error) (still c.args.problem.now c.requires.plain 0) there)
