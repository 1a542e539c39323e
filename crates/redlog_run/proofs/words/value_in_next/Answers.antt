use Rattle.std.proofs.Common.{rules, ◌≡◌, Some}
use Rattle.program_meaning.specs.Value.{value_of}
use Rattle.redlog_run.proofs.Spelling.{in_next}
use Rattle.redlog_run.proofs.words.value_in_next.Goals as goal

pub returns : goal.returns
returns c =
    let value : value_of c.args.greatest c.as_bytes.result.now ≡ Some c.in_ok-value.value = search rules in
    in_next c.args.greatest c.in_ok-value.value c.args.others.now c.in_ok-text.field-0-1.now c.in_ok-text.text.now c.as_bytes.result.now c.in_ok-text.ensures.cases.0 c.as_bytes.ensures.value value
