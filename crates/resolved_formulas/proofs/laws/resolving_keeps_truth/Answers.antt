use Rattle.resolved_formulas.proofs.ResolvedTruth.{resolving_keeps_truth, resolving_is_normal}
use Rattle.resolved_formulas.proofs.ResolvedHeight.{resolving_keeps_height}
use Rattle.resolved_formulas.proofs.ResolvedNames.{resolving_brings_no_name}
use Rattle.resolved_formulas.proofs.laws.resolving_keeps_truth.Goals as goal

pub returns : goal.returns
returns c = record { truth = resolving_keeps_truth; normal = resolving_is_normal; names = resolving_brings_no_name; height = resolving_keeps_height }
