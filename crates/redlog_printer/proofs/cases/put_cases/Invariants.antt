use Rattle.std.proofs.Common.{◌≡◌, ◌++◌, [], length, map, drop}
use Rattle.reference_engine.specs.Case.{case_seen}
use Rattle.logic_meaning.specs.AnswerTexts.{separated, case_text}
use Rattle.redlog_printer.specs.Within.{AreCasesWithin}
use Rattle.redlog_printer.proofs.cases.put_cases.Given as goal

-- what is written and what is left is the whole text
abbrev pub invariant-loop-case : goal.invariant-loop-case
invariant-loop-case l = record {
  left : l.out ++ separated l.before (map (case_text l.names) (map case_seen (drop l.case-index l.cases))) ≡ l.fn.out ++ separated [] (map (case_text l.names) (map case_seen l.cases));
  within : AreCasesWithin (length l.names) (map case_seen (drop l.case-index l.cases));
}
