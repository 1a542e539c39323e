use Rattle.std.proofs.Common.{◌≡◌, length}
use Rattle.redlog_reader.specs.Machine.{folded}
use Rattle.redlog_reader.specs.View.{frames, reading_of}
use Rattle.redlog_reader.proofs.machine.fold.Given as goal

abbrev pub invariant-tighter : goal.invariant-tighter
invariant-tighter l = folded l.strength (frames l.fn.pending.items) (reading_of l.fn.operand) ≡ folded l.strength (frames l.pending.items) (reading_of l.operand)

abbrev pub decreases-tighter : goal.decreases-tighter
decreases-tighter l = length l.pending.items
