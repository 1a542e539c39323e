use Rattle.std.proofs.Common.{rules, ◌≡◌, ◌<◌, ◌+◌, ◌++◌, [], map, List, length, drop, refl, subst}
use Rattle.std.proofs.lemmas.Option.{slice_get_read}
use Rattle.logic_meaning.specs.Writing.{text_limit}
use Rattle.redlog_printer.proofs.Written.{drop_at}
use Rattle.reference_engine.specs.declared.cases.PrintedCase.{PrintedCase}
use Rattle.reference_engine.specs.Case.{case_seen}
use Rattle.logic_meaning.specs.AnswerTexts.{separated, case_text}
use Rattle.redlog_printer.proofs.Separating.{next_long}
use Rattle.redlog_printer.proofs.cases.put_cases.Goals as goal

pub returns-in_err-put_case-clause-long : goal.returns-in_err-put_case-clause-long
returns-in_err-put_case-clause-long c h =
    let names = c.args.names.now in
    let cases : List PrintedCase = c.args.cases.now in
    let item = c.case-item.result in
    let i = c.loop-case.case-index in
    let before = c.loop-case.before.now in
    let long : text_limit < length c.loop-case.out + length (before ++ case_text names (case_seen item)) = search rules in
    next_long before (case_text names (case_seen item)) (map (case_text names) (map case_seen (drop (i + 1) cases)))
    c.args.out.now (separated [] (map (case_text names) (map case_seen cases))) c.loop-case.out text_limit
    (subst (λ (ts : List PrintedCase). c.loop-case.out ++ separated before (map (case_text names) (map case_seen ts)) ≡ c.args.out.now ++ separated [] (map (case_text names) (map case_seen cases)))
    (drop_at cases i item (slice_get_read cases (length cases) i item refl c.loop-case-test.true c.case-item.is)) c.loop-case.invariant.left)
    long
