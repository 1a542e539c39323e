use Rattle.std.proofs.Common.{◌≡◌, false, length}
use Rattle.std.specs.List.{AllByRecursion}
use Rattle.prenex_forms.proofs.start.no_marks.Given as goal

-- none so far is set
abbrev pub invariant-loop : goal.invariant-loop
invariant-loop l = record {
  count : length l.marks.items ≡ l.counter;
  none : AllByRecursion (λ b. b ≡ false) l.marks.items;
}
