use Rattle.std.proofs.Common.{rules, ◌≡◌, ◌<◌, ◌+◌, ◌++◌, map, List, ℕ, length, drop, ap, refl, subst}
use Rattle.std.proofs.lemmas.Option.{slice_get_read}
use Rattle.exact_numbers.specs.Fraction.{frac_of}
use Rattle.logic_meaning.specs.Writing.{text_limit}
use Rattle.redlog_printer.proofs.Written.{drop_at}
use Rattle.program_meaning.specs.Texts.{pair_text, value_among, spaced}
use Rattle.smtlib_front.specs.Pairs.{pair_texts}
use Rattle.smtlib_front.proofs.Spacing.{following, spaced_is, next_long}
use Rattle.smtlib_front.proofs.smt_texts_values.put_pairs.Goals as goal

pub loop-symbol-init : goal.loop-symbol-init
loop-symbol-init c = record {
  left = ap (λ (r : List ℕ). c.args.out.now ++ r) (spaced_is (pair_texts c.args.declared.now (map frac_of c.args.values.now) c.args.asked.now));
  known = c.requires.declared;
}

pub returns-in_err-put_pair-clause-long : goal.returns-in_err-put_pair-clause-long
returns-in_err-put_pair-clause-long c h =
    let names = c.args.declared.now in
    let values = map frac_of c.args.values.now in
    let asked : List (List ℕ) = c.args.asked.now in
    let item = c.symbol-item.result in
    let i = c.loop-symbol.symbol-index in
    let before = c.loop-symbol.before.now in
    let pair = pair_text item (value_among names values item) in
    let long : text_limit < length c.loop-symbol.out + length (before ++ pair) = search rules in
    next_long before pair (pair_texts names values (drop (i + 1) asked)) c.args.out.now (spaced (pair_texts names values asked)) c.loop-symbol.out text_limit
    (subst (λ (ts : List (List ℕ)). c.loop-symbol.out ++ following before (pair_texts names values ts) ≡ c.args.out.now ++ spaced (pair_texts names values asked))
    (drop_at asked i item (slice_get_read asked (length asked) i item refl c.loop-symbol-test.true c.symbol-item.is)) c.loop-symbol.invariant.left)
    long
