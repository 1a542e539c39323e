use Rattle.std.proofs.Common.{◌≡◌, map, ◌++◌}
use Rattle.std.specs.Map.{keys_of}
use Rattle.linear_forms.specs.Values.{number_of}
use Rattle.linear_forms.proofs.values.Values.names.Given as goal

-- the names so far, and those that are left
abbrev pub invariant-loop-name : goal.invariant-loop-name
invariant-loop-name l = map number_of l.names.items ++ l.name-iterator ≡ keys_of l.fn.self.entries
