use Rattle.std.proofs.Common.{arith, sym, ap, ◌∙◌, rules, map}
use borrow.Author.Tests.{ltb-true, ltb-false}
use Rattle.std.proofs.lemmas.Result.{err_from_is_err_and}
use Rattle.smt_reader.specs.declared.sexpr.SExpr.TheFolds.{the_lemmas}
use Rattle.smt_reader.proofs.sexpr.SExpr.TheLaws.{the_size}
use Rattle.smt_tokens.specs.CodeTrees.{expression_tree, local_tree}
use Rattle.smt_tokens.proofs.TreeEquations.{tree-Apply, local-roll}
use Rattle.smt_language.specs.Expressions.{expression_of, local_at}
use Rattle.smt_reader.proofs.Lists.{read_start, read_more_in, read_fails, read_end, two_list, tail_less}
use Rattle.std.specs.Prelude.{Some}
use Rattle.std.specs.Option.{option_map}
use Rattle.smt_language.specs.Trees.{Divisible, Let}
use Rattle.smt_reader.proofs.Readings.{refused_too, bound_is, leaf_first, no_bindings, quantified_none, quantified_no_names, quantified_no_body, quantified_some, local_none, local_twice, local_no_values, local_no_body, local_some, no_pair, no_name, no_value, value_is, group_tree, leaf_tree, applied_few, applied_none, applied_some, no_single}
use Rattle.smt_reader.proofs.expression.+expression.Goals as goal
use Rattle.smt_reader.proofs.expression.+expression.Goals.{divide-in_default-via-then-parts-lt1, divide-in_default-via-else-parts-lt1+else-parts-lt2, quantify-in_default-via-then-parts-lt2, quantify-in_default-via-else-parts-lt2+else-parts-lt3, localise-in_default-via-then-parts-lt2, localise-in_default-via-else-parts-lt2+else-parts-lt3, local_value-in_default-as_slice-via-then-as_slice-lt2, local_value-in_default-as_slice-via-else-as_slice-lt2+else-this-lt3}

-- ---- an operator with its members

pub apply-returns-then-not-takes-clause-refused : goal.apply-returns-then-not-takes-clause-refused
apply-returns-then-not-takes-clause-refused t c = applied_few c.args.operator c.args.parts.now (sym c.takes.ensures ∙ c.if-not-takes.true)

pub apply-returns-in_err-list-clause-refused : goal.apply-returns-in_err-list-clause-refused
apply-returns-in_err-list-clause-refused t c =
    let p = err_from_is_err_and c.from_residual.result c.from_residual.ensures.1 in
    rw (p.1, p.2) (refused_too _ (applied_none c.args.operator c.args.parts.now (sym c.takes.ensures ∙ c.if-not-takes.false)) c.in_err-list.ensures.refused)

pub apply-returns-clause-read : goal.apply-returns-clause-read
apply-returns-clause-read t c =
    let f = applied_some c.args.operator c.args.parts.now _ (sym c.takes.ensures ∙ c.if-not-takes.false) c.in_ok-list.ensures.read in
    let g = tree-Apply c.args.operator c.of.result in
    cc (f, g, c.of.ensures)

pub members-parts-init : goal.members-parts-init
members-parts-init t c = read_start expression_of _ _ (ap (map expression_tree) c.new-list.ensures.items)

pub members-returns-in_err-member-clause-refused : goal.members-returns-in_err-member-clause-refused
members-returns-in_err-member-clause-refused t c =
    let p = err_from_is_err_and c.from_residual.result c.from_residual.ensures.1 in
    rw (p.1, p.2) (refused_too _ (read_fails expression_of _ _ _ _ c.parts-test.true c.part-item.is c.parts.invariant) c.in_err-member.ensures.refused)

pub members-parts-preserved : goal.members-parts-preserved
members-parts-preserved t c =
    read_more_in expression_of expression_tree _ _ _ _ _ _ c.parts-test.true c.part-item.is c.parts.invariant c.in_ok-member.ensures.read c.in_ok-push.ensures.items

pub members-returns-clause-read : goal.members-returns-clause-read
members-returns-clause-read t c = read_end expression_of _ _ _ (omega arith) c.parts.invariant

pub locals-bindings-init : goal.locals-bindings-init
locals-bindings-init t c = read_start local_at _ _ (ap (map local_tree) c.new-list.ensures.items)

pub locals-returns-in_err-value-clause-refused : goal.locals-returns-in_err-value-clause-refused
locals-returns-in_err-value-clause-refused t c =
    let p = err_from_is_err_and c.from_residual.result c.from_residual.ensures.1 in
    rw (p.1, p.2) (refused_too _ (read_fails local_at _ _ _ _ c.bindings-test.true c.binding-item.is c.bindings.invariant) c.in_err-value.ensures.refused)

pub locals-bindings-preserved : goal.locals-bindings-preserved
locals-bindings-preserved t c =
    read_more_in local_at local_tree _ _ _ _ _ _ c.bindings-test.true c.binding-item.is c.bindings.invariant c.in_ok-value.ensures.read c.in_ok-push.ensures.items

pub locals-returns-clause-read : goal.locals-returns-clause-read
locals-returns-clause-read t c = read_end local_at _ _ _ (omega arith) c.bindings.invariant

pub group-apply-requires : goal.group-apply-requires
group-apply-requires t c = let h = tail_less the_size c.args.parts.now c.in-Some.rest.now c.in-Some.first.now c.in-Some.ensures.cases.0 in (search (rules, the_lemmas, h), tt)

pub group-divide-requires : goal.group-divide-requires
group-divide-requires t c = let h = tail_less the_size c.args.parts.now c.in-Some.rest.now c.in-Some.first.now c.in-Some.ensures.cases.0 in (search (rules, the_lemmas, h), tt)

pub group-quantify-requires : goal.group-quantify-requires
group-quantify-requires t c = let h = tail_less the_size c.args.parts.now c.in-Some.rest.now c.in-Some.first.now c.in-Some.ensures.cases.0 in (search (rules, the_lemmas, h), tt)

pub group-localise-requires : goal.group-localise-requires
group-localise-requires t c = let h = tail_less the_size c.args.parts.now c.in-Some.rest.now c.in-Some.first.now c.in-Some.ensures.cases.0 in (search (rules, the_lemmas, h), tt)

pub divide-returns-in_default-clause-refused : goal.divide-returns-in_default-clause-refused
divide-returns-in_default-clause-refused t c =
    elim c.in_default.branch [
      | divide-in_default-via-then-parts-lt1 w ↦ ap (option_map (Divisible c.args.divisor)) (no_single c.args.parts.now (λ e. omega (arith, ltb-true, ltb-false)))
      | divide-in_default-via-else-parts-lt1+else-parts-lt2 w ↦ ap (option_map (Divisible c.args.divisor)) (no_single c.args.parts.now (λ e. omega (arith, ltb-true, ltb-false)))
    ]

pub quantify-returns-in_default-clause-refused : goal.quantify-returns-in_default-clause-refused
quantify-returns-in_default-clause-refused t c =
    elim c.in_default.branch [
      | quantify-in_default-via-then-parts-lt2 w ↦ quantified_none c.args.quantifier c.args.parts.now (no_bindings c.args.parts.now (λ e. omega (arith, ltb-true, ltb-false)))
      | quantify-in_default-via-else-parts-lt2+else-parts-lt3 w ↦ quantified_none c.args.quantifier c.args.parts.now (no_bindings c.args.parts.now (λ e. omega (arith, ltb-true, ltb-false)))
    ]

pub quantify-returns-in_default-first-clause-refused : goal.quantify-returns-in_default-first-clause-refused
quantify-returns-in_default-first-clause-refused t c =
    let e = two_list c.args.parts.now _ _ (omega arith) (omega arith) c.first-item.is c.part-item.is in
    quantified_none c.args.quantifier c.args.parts.now (leaf_first c.args.parts.now _ _ _ e (leaf_tree _ _ c.in_default-first.is))

pub localise-returns-in_default-clause-refused : goal.localise-returns-in_default-clause-refused
localise-returns-in_default-clause-refused t c =
    elim c.in_default.branch [
      | localise-in_default-via-then-parts-lt2 w ↦ local_none c.args.parts.now (no_bindings c.args.parts.now (λ e. omega (arith, ltb-true, ltb-false)))
      | localise-in_default-via-else-parts-lt2+else-parts-lt3 w ↦ local_none c.args.parts.now (no_bindings c.args.parts.now (λ e. omega (arith, ltb-true, ltb-false)))
    ]

pub localise-returns-in_default-first-clause-refused : goal.localise-returns-in_default-first-clause-refused
localise-returns-in_default-first-clause-refused t c =
    let e = two_list c.args.parts.now _ _ (omega arith) (omega arith) c.first-item.is c.part-item.is in
    local_none c.args.parts.now (leaf_first c.args.parts.now _ _ _ e (leaf_tree _ _ c.in_default-first.is))

pub quantify-returns-in_err-names-clause-refused : goal.quantify-returns-in_err-names-clause-refused
quantify-returns-in_err-names-clause-refused t c =
    let e = two_list c.args.parts.now _ _ (omega arith) (omega arith) c.first-item.is c.part-item.is in
    let is = bound_is c.args.parts.now c.deref.result.now _ _ e (group_tree _ _ _ c.in-Group.is c.deref.ensures.value) in
    let p = err_from_is_err_and c.from_residual.result c.from_residual.ensures.1 in
    rw (p.1, p.2) (refused_too _ (quantified_no_names c.args.quantifier _ _ _ is) c.in_err-names.ensures.refused)

pub quantify-returns-in_err-body-clause-refused : goal.quantify-returns-in_err-body-clause-refused
quantify-returns-in_err-body-clause-refused t c =
    let e = two_list c.args.parts.now _ _ (omega arith) (omega arith) c.first-item.is c.part-item.is in
    let is = bound_is c.args.parts.now c.deref.result.now _ _ e (group_tree _ _ _ c.in-Group.is c.deref.ensures.value) in
    let p = err_from_is_err_and c.from_residual-in_err-body.result c.from_residual-in_err-body.ensures.1 in
    rw (p.1, p.2) (refused_too _ (quantified_no_body c.args.quantifier _ _ _ _ is c.in_ok-names.ensures.read) c.in_err-body.ensures.refused)

pub quantify-returns-clause-read : goal.quantify-returns-clause-read
quantify-returns-clause-read t c =
    let e = two_list c.args.parts.now _ _ (omega arith) (omega arith) c.first-item.is c.part-item.is in
    let is = bound_is c.args.parts.now c.deref.result.now _ _ e (group_tree _ _ _ c.in-Group.is c.deref.ensures.value) in
    quantified_some c.args.quantifier _ _ _ _ _ is c.in_ok-names.ensures.read c.in_ok-body.ensures.read ∙ ap Some (sym c.in_ok-formula.ensures)

pub localise-returns-then-not-branch-clause-refused : goal.localise-returns-then-not-branch-clause-refused
localise-returns-then-not-branch-clause-refused t c =
    let e = two_list c.args.parts.now _ _ (omega arith) (omega arith) c.first-item.is c.part-item.is in
    let is = bound_is c.args.parts.now c.as_slice-bindings.result.now _ _ e (group_tree _ _ _ c.in-Group.is c.as_slice-bindings.ensures.value) in
    local_twice _ _ _ is (sym c.in_ok-are_bindings.ensures ∙ c.if-not-branch.true)

pub localise-returns-in_err-values-clause-refused : goal.localise-returns-in_err-values-clause-refused
localise-returns-in_err-values-clause-refused t c =
    let e = two_list c.args.parts.now _ _ (omega arith) (omega arith) c.first-item.is c.part-item.is in
    let is = bound_is c.args.parts.now c.as_slice-bindings.result.now _ _ e (group_tree _ _ _ c.in-Group.is c.as_slice-bindings.ensures.value) in
    let p = err_from_is_err_and c.from_residual-in_err-values.result c.from_residual-in_err-values.ensures.1 in
    rw (p.1, p.2) (refused_too _ (local_no_values _ _ _ is (sym c.in_ok-are_bindings.ensures ∙ c.if-not-branch.false)) c.in_err-values.ensures.refused)

pub localise-returns-in_err-body-clause-refused : goal.localise-returns-in_err-body-clause-refused
localise-returns-in_err-body-clause-refused t c =
    let e = two_list c.args.parts.now _ _ (omega arith) (omega arith) c.first-item.is c.part-item.is in
    let is = bound_is c.args.parts.now c.as_slice-bindings.result.now _ _ e (group_tree _ _ _ c.in-Group.is c.as_slice-bindings.ensures.value) in
    let p = err_from_is_err_and c.from_residual-in_err-body.result c.from_residual-in_err-body.ensures.1 in
    rw (p.1, p.2) (refused_too _ (local_no_body _ _ _ _ is (sym c.in_ok-are_bindings.ensures ∙ c.if-not-branch.false) c.in_ok-values.ensures.read) c.in_err-body.ensures.refused)

pub localise-returns-clause-read : goal.localise-returns-clause-read
localise-returns-clause-read t c =
    let e = two_list c.args.parts.now _ _ (omega arith) (omega arith) c.first-item.is c.part-item.is in
    let is = bound_is c.args.parts.now c.as_slice-bindings.result.now _ _ e (group_tree _ _ _ c.in-Group.is c.as_slice-bindings.ensures.value) in
    local_some _ _ _ _ _ is (sym c.in_ok-are_bindings.ensures ∙ c.if-not-branch.false) c.in_ok-values.ensures.read c.in_ok-body.ensures.read
    ∙ ap (λ ls. Some (Let ls (expression_tree c.in_ok-body.body))) (sym c.of.ensures) ∙ ap Some (sym c.in_ok-expression.ensures)

pub local_value-returns-in_default-as_slice-clause-refused : goal.local_value-returns-in_default-as_slice-clause-refused
local_value-returns-in_default-as_slice-clause-refused t c =
    elim c.in_default-as_slice.branch [
      | local_value-in_default-as_slice-via-then-as_slice-lt2 w ↦ no_pair _ c.as_slice.result.now (group_tree c.args.binding.now _ _ c.in-Group.is c.as_slice.ensures.value) (λ e. omega (arith, ltb-true, ltb-false))
      | local_value-in_default-as_slice-via-else-as_slice-lt2+else-this-lt3 w ↦ no_pair _ c.as_slice.result.now (group_tree c.args.binding.now _ _ c.in-Group.is c.as_slice.ensures.value) (λ e. omega (arith, ltb-true, ltb-false))
    ]

pub local_value-returns-in_default-name-clause-refused : goal.local_value-returns-in_default-name-clause-refused
local_value-returns-in_default-name-clause-refused t c =
    let e = two_list c.as_slice.result.now _ _ (omega arith) (omega arith) c.symbol-item.is c.part-item.is in
    no_name _ _ _ _ (group_tree c.args.binding.now _ _ c.in-Group.is c.as_slice.ensures.value) e (sym c.name.ensures ∙ c.in_default-name.is)

pub local_value-returns-in_err-value-clause-refused : goal.local_value-returns-in_err-value-clause-refused
local_value-returns-in_err-value-clause-refused t c =
    let e = two_list c.as_slice.result.now _ _ (omega arith) (omega arith) c.symbol-item.is c.part-item.is in
    let p = err_from_is_err_and c.from_residual.result c.from_residual.ensures.1 in
    rw (p.1, p.2) (refused_too _ (no_value _ _ _ _ _ (group_tree c.args.binding.now _ _ c.in-Group.is c.as_slice.ensures.value) e (sym c.name.ensures ∙ c.in-Some.is)) c.in_err-value.ensures.refused)

pub local_value-returns-clause-read : goal.local_value-returns-clause-read
local_value-returns-clause-read t c =
    let e = two_list c.as_slice.result.now _ _ (omega arith) (omega arith) c.symbol-item.is c.part-item.is in
    value_is _ _ _ _ _ _ (group_tree c.args.binding.now _ _ c.in-Group.is c.as_slice.ensures.value) e (sym c.name.ensures ∙ c.in-Some.is) c.in_ok-value.ensures.read
    ∙ ap Some (sym (local-roll c.in-Some.name c.in_ok-value.value))
