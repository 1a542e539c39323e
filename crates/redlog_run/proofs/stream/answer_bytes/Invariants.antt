use Rattle.std.proofs.Common.{◌≡◌, ℕ, ◌+◌, ◌≤◌, ◌-◌, List, ◌++◌, Option, false, length, take}
use Rattle.redlog_run.specs.Script.{IsWritten}
use Rattle.redlog_run.proofs.Standing.{IsHeld}
use Rattle.redlog_run.proofs.stream.answer_bytes.Given as goal

-- the bytes in front were taken, the lines of their pieces written or held, and no write failed
abbrev pub invariant-loop-taken : goal.invariant-loop-taken
invariant-loop-taken g l =
    let sink = g.K.Sink in
    record {
      held : (limit : ℕ) (before : List ℕ) (first : Option (List ℕ)) → IsWritten limit before first (sink.wrote l.fn.sink) l.fn.answering → IsHeld limit (before ++ take l.taken l.bytes) first (sink.wrote l.sink) l.answering;
      none : l.answering.splitter.whole ≡ false;
      count : l.answering.splitter.fed ≡ l.fn.answering.splitter.fed + l.taken;
      within : l.taken ≤ length l.bytes;
      no_fault : sink.faults l.sink ≡ sink.faults l.fn.sink;
    }

abbrev pub decreases-loop-taken : goal.decreases-loop-taken
decreases-loop-taken g l = length l.bytes - l.taken
