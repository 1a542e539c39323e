use Rattle.std.proofs.Common.{◌≡◌, List, [], ◌++◌, map, ap, ◌∙◌}
use Rattle.written_syntax.specs.CodeTrees.{whole_formula, inner_of}
use Rattle.written_syntax.specs.LastTokens.{all_in_order}
use Rattle.formula_resolving.specs.declared.order.Step.{Step}
use Rattle.formula_resolving.specs.Order.{nest_of}
use Rattle.formula_resolving.proofs.order.commands_inside.Goals as goal

pub returns-clause-order : goal.returns-clause-order
unfolding inner_of
returns-clause-order c =
    let none : c.new-steps.result.items ≡ [] = c.new-steps.ensures.items in
    c.in_ok-gather.ensures.order ∙ ap (λ (xs : List Step). map nest_of xs ++ all_in_order (whole_formula c.args.formula.now).inner) none
