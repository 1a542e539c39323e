use Rattle.std.proofs.Common.{◌+◌, ◌*◌, ◌≤◌}
use Rattle.formula_resolving.specs.Numbering.{Grows}
use Rattle.formula_resolving.proofs.Sizes.{size, size_of_all, size_of_command}
use Rattle.formula_resolving.proofs.Texts.{Goes, GoesOn}
use Rattle.formula_resolving.proofs.text.+texts.Given as goal

abbrev pub invariant-number_whole-prefix : goal.invariant-number_whole-prefix
invariant-number_whole-prefix g l = record {
  left : Goes l.formula l.rest l.initial.names l.names;
  grown : Grows l.initial.names l.names;
  smaller : size l.rest ≤ size l.formula;
}

abbrev pub invariant-number_members-loop-formula : goal.invariant-number_members-loop-formula
invariant-number_members-loop-formula g l = record { left : GoesOn l.formulas l.formula-index l.initial.names l.names; grown : Grows l.initial.names l.names }

-- the size, with the order of the functions at one number
abbrev pub decreases-number_whole : goal.decreases-number_whole
decreases-number_whole g l = 3 * size l.formula.now + 1

abbrev pub decreases-number_matrix : goal.decreases-number_matrix
decreases-number_matrix g l = 3 * size l.formula.now

abbrev pub decreases-number_members : goal.decreases-number_members
decreases-number_members g l = 3 * size_of_all l.formulas.now + 2

abbrev pub decreases-number_command : goal.decreases-number_command
decreases-number_command g l = 3 * size_of_command l.command.now + 2
