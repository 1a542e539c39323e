use Rattle.std.proofs.Common.{length, ap, arith}
use Rattle.std.proofs.lemmas.Fmt.{length-decimal-le}
use Rattle.prenex_forms.proofs.new_names.numbered.Goals as goal

pub of-requires-clause-few : goal.of-requires-clause-few
of-requires-clause-few c =
    let d = length-decimal-le 20 c.args.index (omega arith) (omega arith) (omega arith) in
    omega (arith, d, ap length c.as_bytes.ensures.value, ap length c.in_ok-text.ensures.ok)
