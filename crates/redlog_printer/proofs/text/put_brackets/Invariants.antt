use Rattle.std.proofs.Common.{◌≡◌, ◌++◌}
use Rattle.redlog_printer.specs.Texts.{brackets}
use Rattle.redlog_printer.proofs.text.put_brackets.Given as goal

abbrev pub invariant-loop-closed : goal.invariant-loop-closed
invariant-loop-closed l = l.out ≡ l.initial.out ++ brackets l._closed
