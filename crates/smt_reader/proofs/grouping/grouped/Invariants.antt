use Rattle.std.proofs.Common.{◌≡◌, [], length}
use Rattle.smt_reader.specs.Grouping.{grouped}
use Rattle.smt_reader.specs.OpenGroups.{open_of}
use Rattle.smt_language.specs.Faults.{kinds}
use Rattle.smt_reader.proofs.Grouped.{inside}
use Rattle.smt_reader.proofs.grouping.grouped.Given as goal

-- what is open and what is left come to what all come to
abbrev pub invariant-tokens : goal.invariant-tokens
invariant-tokens l = grouped (open_of l.«open») (kinds l.left) ≡ grouped (inside [] []) (kinds l.fn.tokens)

abbrev pub decreases-tokens : goal.decreases-tokens
decreases-tokens l = length l.left
