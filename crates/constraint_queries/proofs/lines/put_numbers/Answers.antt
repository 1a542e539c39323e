use Rattle.std.proofs.Common.{rules, ◌≡◌, ◌<◌, ◌+◌, ◌++◌, [], ℕ, map, List, length, get_or, drop, subst}
use Rattle.std.proofs.Math.IntN.{ℤ, pos}
use Rattle.std.proofs.lemmas.Option.{slice_get-get_or}
use Rattle.exact_numbers.specs.Frac.{whole_frac}
use Rattle.logic_meaning.specs.Writing.{text_limit}
use Rattle.redlog_printer.proofs.Written.{drop_at}
use Rattle.logic_meaning.specs.AnswerTexts.{separated}
use Rattle.logic_meaning.specs.PointTexts.{fraction_text}
use Rattle.redlog_printer.proofs.Separating.{next_long}
use Rattle.constraint_queries.proofs.lines.put_numbers.Goals as goal

abbrev text_of : ℤ → List ℕ
text_of m = fraction_text (whole_frac m)

pub returns-in_err-put_whole-clause-long : goal.returns-in_err-put_whole-clause-long
returns-in_err-put_whole-clause-long c h =
    let numbers : List ℤ = c.args.numbers.now in
    let i = c.loop-number.number-index in
    let item : ℤ = get_or numbers i (pos 0) in
    let before = c.loop-number.before.now in
    let long : text_limit < length c.loop-number.out + length (before ++ text_of item) = search rules in
    next_long before (text_of item) (map text_of (drop (i + 1) numbers)) c.args.out.now (separated [] (map text_of numbers)) c.loop-number.out text_limit
    (subst (λ (ts : List ℤ). c.loop-number.out ++ separated before (map text_of ts) ≡ c.args.out.now ++ separated [] (map text_of numbers))
    (drop_at numbers i item (slice_get-get_or numbers i (pos 0) c.loop-number-test.true)) c.loop-number.invariant)
    long
