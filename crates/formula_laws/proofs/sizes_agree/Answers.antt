use Rattle.std.proofs.Common.{nat_eq}
use Rattle.logic_meaning.specs.Same.{same_atom}
use Rattle.formula_laws.proofs.Sizes.{subtrees_counted, distinct_count_within, height_within}
use Rattle.formula_laws.proofs.sizes_agree.Goals as goal

pub returns : goal.returns
returns c = λ f. record { with_repeats = subtrees_counted f; without_repeats = distinct_count_within same_atom nat_eq f; height_at_most = height_within f }
