use Rattle.std.proofs.Common.{drop}
use Rattle.smt_language.specs.Bindings.{sorted_name}
use Rattle.smt_reader.proofs.Lists.{IsReadTo}
use Rattle.smt_reader.proofs.binding.sorted_names.Given as goal

abbrev pub invariant-bindings : goal.invariant-bindings
invariant-bindings l = IsReadTo sorted_name l.bindings l.names.items (drop l.binding-index l.bindings)
