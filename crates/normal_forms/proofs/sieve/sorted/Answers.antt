use Rattle.normal_forms.proofs.Sorting.{sorted_of}
use Rattle.normal_forms.proofs.sieve.sorted.Goals as goal

pub returns : goal.returns
returns c = sorted_of c.args.line.now c.in_ok-atoms.atoms.items c.sort_unstable.new.self.items c.dedup.new.self.items c.in_ok-atoms.ensures.items c.sort_unstable.ensures.permutation c.sort_unstable.ensures.sorted c.dedup.ensures.filtered
