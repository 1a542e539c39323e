use Rattle.std.specs.Ordering.{nat_cmp}
use Rattle.std.specs.Cmp.Lexicographic.{slice_cmp}
use Rattle.std.specs.BTreeSet.{contains}
use Rattle.written_syntax.specs.CodeTrees.{formula_tree}
use Rattle.written_syntax.specs.Valued.{prefix_of}
use Rattle.written_syntax.proofs.NameSearch.{IsOpening}
use Rattle.written_syntax.proofs.valued.open_scope.Given as goal

abbrev pub invariant-prefix : goal.invariant-prefix
invariant-prefix l =
    IsOpening (prefix_of (formula_tree l.formula)) (prefix_of (formula_tree l.inner)) (contains (slice_cmp nat_cmp) l.initial.names) (contains (slice_cmp nat_cmp) l.names) l.opened.items
