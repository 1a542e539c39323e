use Rattle.std.proofs.Common.{rules, ◌≡◌, ◌≤◌, ◌++◌, length, drop}
use Rattle.std.specs.Prelude.{string_bytes}
use Rattle.program_meaning.specs.CommandWords.{name_of, greatest_of, Gives}
use Rattle.redlog_run.proofs.Spelling.{begun}
use Rattle.redlog_run.proofs.words.option_at.Goals as goal

pub returns : goal.returns
returns c =
    let given = c.in_ok-given.given in
    let word : string_bytes c.in_ok-word.word.now ≡ name_of c.args.choice ++ c.in_ok-tail.tail.now = search rules in
    let within : given.words ≤ length c.in_ok-word.others.now = search rules in
    let gives : Gives (greatest_of c.args.choice) c.in_ok-tail.tail.now c.in_ok-word.others.now given.value (drop given.words c.in_ok-word.others.now) = search rules in
    begun c.args.choice given.value given.words c.args.words.now c.in_ok-word.others.now c.in_ok-word.word.now c.in_ok-tail.tail.now c.in_ok-word.ensures.cases.0 word within gives
