use Rattle.std.proofs.Common.{map, take, ◌∙◌}
use Rattle.smt_tokens.specs.CodeTrees.{local_tree}
use Rattle.smt_tokens.specs.TreeLists.{locals_of}
use Rattle.smt_language.specs.Undeclared.{known_locals}
use Rattle.smt_resolver.proofs.KnownLaws.{local_last, known_more}
use Rattle.smt_resolver.proofs.unknown.local_frame.Goals as goal

pub loop-local-preserved : goal.loop-local-preserved
loop-local-preserved c = λ known x.
    local_last c.args.locals.now c.loop-local.local-index c.local-item.result known x c.loop-local-test.true c.local-item.is
    ∙ known_more c.local-item.result.name tt c.loop-local.frame c.put.new.self known (known_locals (locals_of (take c.loop-local.local-index (map local_tree c.args.locals.now))) known) x (c.loop-local.invariant known x) (c.in_ok-put.ensures x)
