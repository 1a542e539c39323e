use Rattle.std.proofs.Common.{rules, ◌≡◌, true, length, nat_le}
use Rattle.std.specs.List.{list_all}
use Rattle.program_meaning.specs.Value.{is_digit}
use Rattle.redlog_run.proofs.value.are_digits.Goals as goal

pub returns : goal.returns
returns c =
    let text = c.args.text.now in
    let some : nat_le 1 (length text) ≡ true = search rules in
    let few : nat_le (length text) 10 ≡ true = search rules in
    let all : c.all_digits.result ≡ list_all is_digit text = search rules in
    rw some (rw few all)
