use Rattle.std.proofs.lemmas.Int.{to_z-of_z}
use Rattle.exact_numbers.proofs.Casts.{fits}
use Rattle.written_atoms.proofs.SharedSums.{if_lowest}
use Rattle.written_atoms.proofs.sum.SharedSum.into_form.Goals as goal

pub returns : goal.returns
returns c =
    let s = c.args.self in
    let k = fits s.denominator s.within in
    let e = simp to_z-of_z at c.lowest.ensures.rule in
    if_lowest s c.in_ok-into_form.field-0 c.lowest.result c.in_ok-into_form.ensures.0 e
