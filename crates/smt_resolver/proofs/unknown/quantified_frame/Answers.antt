use Rattle.std.proofs.Common.{take, ◌∙◌}
use Rattle.smt_language.specs.Undeclared.{known_inside}
use Rattle.smt_resolver.proofs.KnownLaws.{known_last, known_more}
use Rattle.smt_resolver.proofs.unknown.quantified_frame.Goals as goal

pub loop-name-preserved : goal.loop-name-preserved
loop-name-preserved c = λ known x.
    known_last c.args.names.now c.loop-name.name-index c.name-item.result known x c.loop-name-test.true c.name-item.is
    ∙ known_more c.name-item.result.name tt c.loop-name.frame c.put.new.self known (known_inside (take c.loop-name.name-index c.args.names.now) known) x (c.loop-name.invariant known x) (c.in_ok-put.ensures x)
