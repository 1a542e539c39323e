use Rattle.std.proofs.Common.{◌≡◌, ◌≤◌, ◌+◌, ◌*◌, ◌^◌, drop}
use Rattle.program_meaning.specs.Value.{number_after}
use Rattle.redlog_run.proofs.value.number_of.Given as goal

abbrev pub invariant-digits : goal.invariant-digits
invariant-digits l = (number_after 0 l.digits ≡ number_after l.number (drop l.digit-index l.digits)) × (l.number + 23 ≤ 23 * 10 ^ l.digit-index)
