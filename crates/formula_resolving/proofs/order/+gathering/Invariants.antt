use Rattle.std.proofs.Common.{◌≡◌, ◌+◌, ◌*◌, ◌≤◌, take}
use Rattle.written_syntax.specs.CodeTrees.{whole_formula}
use Rattle.formula_resolving.specs.Order.{IsGathered}
use Rattle.formula_resolving.proofs.Sizes.{size, size_of_all, size_of_command}
use Rattle.formula_resolving.proofs.Gathering.{inside_all}
use Rattle.formula_resolving.proofs.order.+gathering.Given as goal

-- what is left has the same commands
abbrev pub invariant-gather-chain : goal.invariant-gather-chain
invariant-gather-chain l = record { same : (whole_formula l.rest).inner ≡ (whole_formula l.formula).inner; kept : l.steps.items ≡ l.initial.steps.items; smaller : size l.rest ≤ size l.formula }

abbrev pub invariant-gather_all-loop-formula : goal.invariant-gather_all-loop-formula
invariant-gather_all-loop-formula l = IsGathered (inside_all (take l.formula-index l.formulas)) l.initial.steps.items l.steps.items l.count

-- the size, with the order of the functions at one number
abbrev pub decreases-gather : goal.decreases-gather
decreases-gather l = 4 * size l.formula.now

abbrev pub decreases-gather_both : goal.decreases-gather_both
decreases-gather_both l = 4 * (size l.left.now + size l.right.now) + 1

abbrev pub decreases-gather_all : goal.decreases-gather_all
decreases-gather_all l = 4 * size_of_all l.formulas.now + 1

abbrev pub decreases-gather_command : goal.decreases-gather_command
decreases-gather_command l = 4 * size_of_command l.command.now + 1

abbrev pub decreases-gather_inside : goal.decreases-gather_inside
decreases-gather_inside l = 4 * size_of_command l.command.now
