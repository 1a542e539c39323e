use Rattle.std.proofs.Common.{map}
use Rattle.std.specs.Ordering.{nat_cmp}
use Rattle.std.specs.BTreeSet.{contains}
use Rattle.written_syntax.specs.CodeTrees.{formula_tree}
use Rattle.written_syntax.specs.Valued.{prefix_of}
use Rattle.logic_meaning.specs.Names.{place}
use Rattle.free_names.proofs.Scopes.{IsOpening}
use Rattle.free_names.proofs.valued.open_scope.Given as goal

abbrev pub invariant-prefix : goal.invariant-prefix
invariant-prefix l =
    IsOpening (map (place l.around.names.now) (prefix_of (formula_tree l.formula))) (map (place l.around.names.now) (prefix_of (formula_tree l.inner))) (contains nat_cmp l.initial.opened) (contains nat_cmp l.opened) l.new.items
