use Rattle.std.proofs.Common.{arith, sym, ◌∙◌}
use borrow.Author.Tests.{ltb-true, ltb-false}
use Rattle.smt_reader.proofs.Lists.{no_constant, three_list, constant_is}
use Rattle.smt_reader.proofs.command.constant.Goals as goal
use Rattle.smt_reader.proofs.command.constant.Goals.{in_default-via-then-parts-lt3, in_default-via-else-parts-lt3+else-parts-lt4}

pub returns-in_default : goal.returns-in_default
returns-in_default c =
    elim c.in_default.branch [
      | in_default-via-then-parts-lt3 w ↦ no_constant _ (λ e. omega (arith, ltb-true, ltb-false))
      | in_default-via-else-parts-lt3+else-parts-lt4 w ↦ no_constant _ (λ e. omega (arith, ltb-true, ltb-false))
    ]

pub returns-then-not-is_void : goal.returns-then-not-is_void
returns-then-not-is_void c =
    let e = three_list c.args.parts.now _ _ _ (omega arith) (omega arith) c.name-item.is c.arguments-item.is c.sort-item.is in
    constant_is c.args.parts.now _ _ _ _ e (sym c.is_void.ensures ∙ c.if-not-is_void.true)

pub returns : goal.returns
returns c =
    let e = three_list c.args.parts.now _ _ _ (omega arith) (omega arith) c.name-item.is c.arguments-item.is c.sort-item.is in
    constant_is c.args.parts.now _ _ _ _ e (sym c.is_void.ensures ∙ c.if-not-is_void.false)
