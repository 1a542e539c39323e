use Rattle.std.proofs.Common.{◌≡◌, ◌≤◌, ◌+◌, ◌-◌, ◌++◌, length, drop}
use Rattle.std.specs.List.{flat_map}
use Rattle.logic_meaning.specs.Text.{later_multiple}
use Rattle.redlog_printer.proofs.forms.put_later_multiples.Given as goal

-- what is written and what is left is the whole text; each multiple has taken a byte at least
abbrev pub invariant-loop-name : goal.invariant-loop-name
invariant-loop-name l = record {
  left : l.out ++ flat_map (later_multiple l.names) (drop l.place l.form.terms) ≡ l.initial.out ++ flat_map (later_multiple l.names) (drop 1 l.form.terms);
  few : l.place ≤ length l.out + 1;
}

abbrev pub decreases-loop-name : goal.decreases-loop-name
decreases-loop-name l = length l.form.terms - l.place
