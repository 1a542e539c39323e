use Rattle.std.proofs.Common.{◌≡◌, [], length}
use Rattle.redlog_reader.specs.Machine.{run, Wants}
use Rattle.redlog_reader.specs.View.{frames, mode_of}
use Rattle.redlog_reader.proofs.machine.read.Given as goal

abbrev pub invariant-terminals : goal.invariant-terminals
invariant-terminals l = run l.goal l.fn.tokens [] Wants ≡ run l.goal l.left (frames l.pending.items) (mode_of l.expects)

abbrev pub decreases-terminals : goal.decreases-terminals
decreases-terminals l = length l.left
