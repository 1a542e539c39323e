use Rattle.std.proofs.Common.{◌≡◌, ◌<◌, ◌^◌}
use Rattle.smt_tokens.proofs.number.power_of_ten.Given as goal

abbrev pub invariant-places : goal.invariant-places
invariant-places l = record {
  power : l.power ≡ 10 ^ l._place;
  fits : l.power < 2 ^ 127;
}
