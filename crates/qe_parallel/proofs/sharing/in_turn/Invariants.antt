use Rattle.qe_parallel.specs.Fanned.{AnswerAll}
use Rattle.qe_parallel.proofs.sharing.in_turn.Given as goal

-- the pieces so far have their answers
abbrev pub invariant-loop-piece : goal.invariant-loop-piece
invariant-loop-piece g l = AnswerAll (g.W.Worker.answers l.worker) l.from l.piece l.outs.items
