use Rattle.std.proofs.Common.{◌≡◌, ℕ, length}
use Rattle.prenex_forms.specs.Named.{now_of}
use Rattle.prenex_forms.proofs.start.numbers.Given as goal

-- each has its own
abbrev pub invariant-loop-number : goal.invariant-loop-number
invariant-loop-number l = record {
  count : length l.numbers.items ≡ l.number;
  numbers : (x : ℕ) → now_of l.numbers.items x ≡ x;
}
