use Rattle.std.proofs.Common.{arith, sym, ◌∙◌, rules}
use Rattle.written_syntax.proofs.NameSearch.{was_absent, was_known}
use Rattle.smt_reader.proofs.Apart.{apart_start, apart_more, apart_known, apart_none, apart_end}
use Rattle.smt_reader.proofs.binding.bind_apart.Goals as goal

pub bindings-init : goal.bindings-init
bindings-init c = apart_start _ _ (λ x. search rules)

pub returns-in_default : goal.returns-in_default
returns-in_default c = sym (apart_none _ _ _ _ c.bindings-test.true c.binding-item.is c.bindings.invariant (sym c.bound_name.ensures ∙ c.in_default.is))

pub returns-then-not-branch : goal.returns-then-not-branch
returns-then-not-branch c =
    sym (apart_known _ _ _ _ _ c.bindings-test.true c.binding-item.is c.bindings.invariant (sym c.bound_name.ensures ∙ c.in-Some.is) (was_known _ _ c.in_ok-insert.ensures.added c.if-not-branch.true))

pub bindings-preserved : goal.bindings-preserved
bindings-preserved c =
    apart_more _ _ _ _ _ _ c.bindings-test.true c.binding-item.is c.bindings.invariant (sym c.bound_name.ensures ∙ c.in-Some.is) (was_absent _ _ c.in_ok-insert.ensures.added c.if-not-branch.false) (λ y. c.in_ok-insert.ensures.updates.0 y)

pub returns : goal.returns
returns c = sym (apart_end _ _ _ (omega arith) c.bindings.invariant)
