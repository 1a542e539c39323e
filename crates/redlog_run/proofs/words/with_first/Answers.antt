use Rattle.std.proofs.Common.{rules, ◌≡◌, drop, true, false, arith}
use Rattle.std.specs.Prelude.{None, is_some}
use Rattle.program_meaning.specs.CommandWords.{given, SpellsAfter}
use Rattle.redlog_run.proofs.Spelling.{after_flag, after_option, flag_long, given_twice, none_begins, nothing_spelled, some_words}
use Rattle.redlog_run.proofs.words.with_first.Goals as goal

pub returns-then-begins_with_flag : goal.returns-then-begins_with_flag
returns-then-begins_with_flag c =
    let words = c.args.words.now in
    let begins = c.begins_with_flag.ensures.flag c.if-begins_with_flag.true in (
      omega arith,
      flag_long words (drop 1 words) begins,
      after_flag c.args.before c.in_ok-options.options words (drop 1 words) begins c.in_ok-options.ensures.0 c.in_ok-options.ensures.1,
    )

pub returns-in_err-first : goal.returns-in_err-first
returns-in_err-first c =
    let words = c.args.words.now in
    let none : c.from_residual-in_err-first.result ≡ None = search rules in
    nothing_spelled (SpellsAfter c.args.before words) _ c.from_residual-in_err-first.result none
    (none_begins c.args.before words (some_words words c.requires) c.in_err-first.ensures (c.begins_with_flag.ensures.none c.if-begins_with_flag.false))

pub returns-then-has : goal.returns-then-has
returns-then-has c =
    let words = c.args.words.now in
    let first = c.in_ok-first.first in
    let twice : is_some (given first.choice c.args.before) ≡ true = search rules in
    given_twice c.args.before words (some_words words c.requires) first.choice first.value (drop first.words words) c.in_ok-first.ensures.2 twice

pub returns : goal.returns
returns c =
    let words = c.args.words.now in
    let first = c.in_ok-first.first in
    let found = c.in_ok-first.ensures in
    let free : is_some (given first.choice c.args.before) ≡ false = search rules in (
      found.0,
      found.1,
      after_option c.args.before c.with.result words (some_words words c.requires) first.choice first.value first.words found.2 c.with.ensures free,
    )
