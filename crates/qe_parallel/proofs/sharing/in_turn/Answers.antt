use Rattle.qe_parallel.proofs.Runs.{all_have}
use Rattle.qe_parallel.proofs.sharing.in_turn.Goals as goal

pub returns-in-Err : goal.returns-in-Err
returns-in-Err g c = record {
  first = c.loop-piece.auto.piece;
  last = c.loop-piece-test.true;
  stops = c.in-Err.ensures.stop;
  before = all_have (g.W.Worker.answers c.args.worker.now) c.args.from c.loop-piece.piece c.loop-piece.outs.items c.loop-piece.invariant;
}
