use Rattle.std.proofs.Common.{rules}
use Rattle.std.proofs.lemmas.Iterator.{YieldsList-from_slice, YieldsList-from_zip, cases_from_any}
use borrow.Author.Tests.{tests}
use Rattle.certificates.proofs.Pairs.{Strict, Not, strict_if_some}
use Rattle.certificates.proofs.constraint.some_strict.Goals as goal

pub returns : goal.returns
returns c =
    strict_if_some c.args.constraints.now c.args.multipliers.now c.any.result
    (cases_from_any c.any.new.self _ c.any.result Strict (Not Strict) c.any.ensures.ran (YieldsList-from_zip (YieldsList-from_slice c.args.constraints.now cc) (YieldsList-from_slice c.args.multipliers.now c.zip-pairs.ensures.second.0)) (λ x q k. search (rules, tests)) (λ x q k. search (rules, tests)))
