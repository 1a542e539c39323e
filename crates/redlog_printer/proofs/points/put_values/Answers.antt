use Rattle.std.proofs.Common.{rules, ◌≡◌, ◌<◌, ◌+◌, ◌++◌, [], map, List, length, drop, refl, subst}
use Rattle.std.proofs.lemmas.Option.{slice_get_read}
use Rattle.exact_numbers.specs.declared.fraction.Fraction.{Fraction}
use Rattle.logic_meaning.specs.declared.form.VarId.{VarId}
use Rattle.logic_meaning.specs.Writing.{text_limit}
use Rattle.redlog_printer.proofs.Written.{drop_at}
use Rattle.sample_reference.specs.Seen.{value_of, values_of}
use Rattle.logic_meaning.specs.AnswerTexts.{separated}
use Rattle.logic_meaning.specs.PointTexts.{value_text}
use Rattle.redlog_printer.proofs.Separating.{next_long}
use Rattle.redlog_printer.proofs.points.put_values.Goals as goal

pub returns-in_err-put_value-clause-long : goal.returns-in_err-put_value-clause-long
returns-in_err-put_value-clause-long c h =
    let names = c.args.names.now in
    let values : List (VarId × Fraction) = c.args.values.now in
    let item = c.value-item.result in
    let i = c.loop-value.value-index in
    let before = c.loop-value.before.now in
    let long : text_limit < length c.loop-value.out + length (before ++ value_text names (value_of item)) = search rules in
    next_long before (value_text names (value_of item)) (map (value_text names) (values_of (drop (i + 1) values)))
    c.args.out.now (separated [] (map (value_text names) (values_of values))) c.loop-value.out text_limit
    (subst (λ (ts : List (VarId × Fraction)). c.loop-value.out ++ separated before (map (value_text names) (values_of ts)) ≡ c.args.out.now ++ separated [] (map (value_text names) (values_of values)))
    (drop_at values i item (slice_get_read values (length values) i item refl c.loop-value-test.true c.value-item.is)) c.loop-value.invariant.left)
    long
