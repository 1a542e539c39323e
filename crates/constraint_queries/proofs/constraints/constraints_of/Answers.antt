use Rattle.std.proofs.Common.{◌≡◌, List, [], ◌∷◌, ap, sym, ◌∙◌, subst, refl, rules, map, Err}
use Rattle.std.specs.Prelude.{IfErr}
use Rattle.normal_atoms.specs.Atoms.{context_of}
use Rattle.logic_meaning.specs.Context.{Integers}
use Rattle.normal_atoms.proofs.Stepped.{ok_map}
use Rattle.formula_tree.specs.declared.shape.Shape.{Shape}
use Rattle.formula_store.specs.declared.id.FormulaId.{FormulaId}
use Rattle.formula_store.specs.Nodes.{tree}
use Rattle.language_meaning.specs.Trees.{formulas_of}
use Rattle.written_syntax.specs.CodeTrees.{formula_tree}
use Rattle.logic_meaning.specs.Constraints.{Constraint}
use Rattle.program_meaning.specs.declared.line.StatementError.TheVariants as error
use Rattle.program_meaning.specs.Assumptions.{resolved_all}
use Rattle.program_meaning.specs.Certificates.{tree_constraint}
use Rattle.session_state.specs.Keeping.{state_of}
use Rattle.form_commands.specs.Reading.{AreUnread}
use Rattle.form_commands.proofs.ReadLemmas.{proper_items}
use Rattle.constraint_queries.specs.Steps.{NoConstraints}
use Rattle.constraint_queries.proofs.CauseSteps.{unread, other_theory, overflow_in_integers}
use Rattle.constraint_queries.proofs.constraints.constraints_of.Goals as goal

each_oriented : (nodes : List (Shape FormulaId)) (ids : List FormulaId) → map (λ id. tree_constraint (tree nodes id)) ids ≡ map tree_constraint (map (tree nodes) ids)
each_oriented nodes [] = refl
each_oriented nodes (id ∷ ids) = ap (λ (cs : List Constraint). tree_constraint (tree nodes id) ∷ cs) (each_oriented nodes ids)

pub read_all-requires-clause-proper : goal.read_all-requires-clause-proper
read_all-requires-clause-proper c = proper_items c.args.written.now c.requires.proper

pub returns-in_err-check_fields-in-Ok-clause-refused : goal.returns-in_err-check_fields-in-Ok-clause-refused
returns-in_err-check_fields-in-Ok-clause-refused c =
    let s = state_of c.args.state.now in
    let written = formulas_of (map formula_tree c.args.written.now) in
    let k = c.in_err-check_fields-in-Ok.ensures.integers in
    let theory : s.context ≡ Integers = sym (ap context_of c.read_all.ensures.kept.context) ∙ k.1 in
    let e : c.from_residual.result ≡ Err c.in_err-check_fields-in-Ok.field-0.0 = search rules in
    subst (λ r. IfErr r (NoConstraints s written)) (sym (e ∙ ap Err k.0)) (other_theory s written c.requires.numbered c.requires.constraints theory c.in-Ok.ensures.read.readable)

pub returns-in_err-check_overflow-in-Err-clause-refused : goal.returns-in_err-check_overflow-in-Err-clause-refused
returns-in_err-check_overflow-in-Err-clause-refused c =
    let s = state_of c.args.state.now in
    let written = formulas_of (map formula_tree c.args.written.now) in
    let k = c.in_err-check_overflow-in-Err.ensures.integers in
    let theory : s.context ≡ Integers = sym (ap context_of c.read_all.ensures.kept.context) ∙ k.2 in
    let overflows : AreUnread s written error.Overflow = subst (AreUnread s written) k.1 c.in-Err.ensures.unread in
    let e : c.from_residual-in_err-check_overflow-in-Err.result ≡ Err c.in_err-check_overflow-in-Err.field-0.0 = search rules in
    subst (λ r. IfErr r (NoConstraints s written)) (sym (e ∙ ap Err k.0)) (overflow_in_integers s written c.requires.numbered c.requires.constraints theory overflows)

pub returns-in_ok-check_fields-in-Ok-clause-constraints : goal.returns-in_ok-check_fields-in-Ok-clause-constraints
returns-in_ok-check_fields-in-Ok-clause-constraints c =
    let s = state_of c.args.state.now in
    let written = formulas_of (map formula_tree c.args.written.now) in
    let nodes = c.read_all.new.state.store in
    let ids : List FormulaId = c.deref.result.now in
    let made : map (tree nodes) ids ≡ resolved_all s written = ap (map (tree nodes)) c.deref.ensures.value ∙ c.in-Ok.ensures.read.made.same in
    ok_map c.oriented.result (λ v e. e ∙ each_oriented nodes ids ∙ ap (map tree_constraint) made) c.oriented.ensures.constraints

pub returns-in_ok-check_overflow-in-Err-clause-refused : goal.returns-in_ok-check_overflow-in-Err-clause-refused
returns-in_ok-check_overflow-in-Err-clause-refused c =
    let s = state_of c.args.state.now in
    let written = formulas_of (map formula_tree c.args.written.now) in
    unread s written c.requires.numbered c.requires.constraints c.in-Err.error (λ p. sym (ap context_of c.read_all.ensures.kept.context) ∙ c.in_ok-check_overflow-in-Err.ensures.fields p) c.in-Err.ensures.unread
