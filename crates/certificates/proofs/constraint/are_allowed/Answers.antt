use Rattle.std.proofs.Common.{rules}
use Rattle.std.proofs.lemmas.Iterator.{YieldsList-from_slice, YieldsList-from_zip, cases_from_all}
use borrow.Author.Tests.{tests}
use Rattle.certificates.proofs.Pairs.{Allowed, Not, allowed_if_each, same_length}
use Rattle.certificates.proofs.constraint.are_allowed.Goals as goal

pub returns-then-constraints-multipliers : goal.returns-then-constraints-multipliers
returns-then-constraints-multipliers c =
    allowed_if_each c.args.constraints.now c.args.multipliers.now c.all.result c.if-constraints-multipliers.true
    (cases_from_all c.all.new.self _ c.all.result Allowed (Not Allowed) c.all.ensures.ran (YieldsList-from_zip (YieldsList-from_slice c.args.constraints.now cc) (YieldsList-from_slice c.args.multipliers.now c.zip.ensures.second.0)) (λ x q k. search (rules, tests)) (λ x q k. search (rules, tests)))

pub returns-else-constraints-multipliers : goal.returns-else-constraints-multipliers
returns-else-constraints-multipliers c =
    (λ t. absurd (c.if-constraints-multipliers.false (search (rules, tests))), λ a. absurd (c.if-constraints-multipliers.false (same_length c.args.constraints.now c.args.multipliers.now a)))
