use Rattle.std.proofs.Common.{arith, sym, ◌∙◌}
use Rattle.smt_language.specs.Bindings.{sorted_name}
use Rattle.smt_reader.proofs.Lists.{read_start, read_more, read_fails, read_end}
use Rattle.smt_reader.proofs.binding.sorted_names.Goals as goal

pub bindings-init : goal.bindings-init
bindings-init c = read_start sorted_name _ _ c.new-names.ensures.items

pub returns-in_default-clause-refused : goal.returns-in_default-clause-refused
returns-in_default-clause-refused c = read_fails sorted_name _ _ _ _ c.bindings-test.true c.binding-item.is c.bindings.invariant (sym c.sorted_name.ensures ∙ c.in_default.is)

pub bindings-preserved : goal.bindings-preserved
bindings-preserved c = read_more sorted_name _ _ _ _ _ _ c.bindings-test.true c.binding-item.is c.bindings.invariant (sym c.sorted_name.ensures ∙ c.in-Some.is) c.in_ok-push.ensures.items

pub returns-clause-read : goal.returns-clause-read
returns-clause-read c = read_end sorted_name _ _ _ (omega arith) c.bindings.invariant
