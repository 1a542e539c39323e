use Rattle.std.proofs.Common.{drop}
use Rattle.std.specs.Ordering.{nat_cmp}
use Rattle.std.specs.Cmp.Lexicographic.{slice_cmp}
use Rattle.std.specs.BTreeSet.{contains}
use Rattle.smt_reader.proofs.Apart.{IsApartTo}
use Rattle.smt_reader.proofs.binding.bind_apart.Given as goal

abbrev pub invariant-bindings : goal.invariant-bindings
invariant-bindings l = IsApartTo l.bindings (contains (slice_cmp nat_cmp) l.seen) (drop l.binding-index l.bindings)
