use Rattle.std.proofs.Common.{◌≡◌, ◌∷◌, drop}
use Rattle.redlog_run.specs.Script.{pace_of}
use Rattle.redlog_run.proofs.write.pace_after.Given as goal

abbrev pub invariant-bytes : goal.invariant-bytes
invariant-bytes l = pace_of (l.fn.first ∷ l.bytes) ≡ pace_of (l.before ∷ drop l.byte-index l.bytes)
