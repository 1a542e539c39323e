use Rattle.std.proofs.Common.{rules, ◌≡◌, Some}
use Rattle.program_meaning.specs.Value.{value_of}
use Rattle.redlog_run.proofs.Spelling.{in_tail}
use Rattle.redlog_run.proofs.words.value_at.Goals as goal

pub returns : goal.returns
returns c =
    let value : value_of c.args.greatest c.in-Some.text.now ≡ Some c.in_ok-value.value = search rules in
    let sign : c.in-Some.sign.now ≡ 61 = search rules in
    in_tail c.args.greatest c.in_ok-value.value c.in-Some.sign.now c.args.others.now c.args.tail.now c.in-Some.text.now c.in-Some.ensures.cases.0 sign value
