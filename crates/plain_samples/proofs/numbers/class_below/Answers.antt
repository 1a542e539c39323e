use Rattle.std.proofs.Common.{sym, subst}
use Rattle.exact_numbers.specs.Limit.{InLimit}
use Rattle.exact_numbers.proofs.Casts.{read_back}
use Rattle.exact_numbers.proofs.Limits.{formed_by}
use Rattle.plain_samples.proofs.numbers.class_below.Goals as goal

pub whole-requires : goal.whole-requires
whole-requires c =
    let n = c.in_ok-number-in-Some.number in
    let f = formed_by _ n c.in_ok-number-in-Some.ensures in
    subst InLimit (sym (read_back n f.within)) f.within
