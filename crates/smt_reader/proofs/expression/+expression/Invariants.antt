use Rattle.std.proofs.Common.{drop, map, ◌*◌, ◌+◌}
use Rattle.smt_tokens.specs.CodeTrees.{expression_tree, local_tree}
use Rattle.smt_language.specs.Expressions.{expression_of, local_at}
use Rattle.smt_reader.proofs.Lists.{IsReadTo}
use Rattle.smt_reader.proofs.expression.+expression.Given as goal

abbrev pub invariant-members-parts : goal.invariant-members-parts
invariant-members-parts l = IsReadTo expression_of l.parts (map expression_tree l.list.items) (drop l.part-index l.parts)

abbrev pub invariant-locals-bindings : goal.invariant-locals-bindings
invariant-locals-bindings l = IsReadTo local_at l.bindings (map local_tree l.list.items) (drop l.binding-index l.bindings)

-- what a call reads is smaller, or it is no larger and the call reads it for a part of its caller
abbrev pub decreases-expression : goal.decreases-expression
decreases-expression l = 4 * goal.size-expression l

abbrev pub decreases-group : goal.decreases-group
decreases-group l = 4 * goal.size-group l + 3

abbrev pub decreases-apply : goal.decreases-apply
decreases-apply l = 4 * goal.size-apply l + 2

abbrev pub decreases-divide : goal.decreases-divide
decreases-divide l = 4 * goal.size-divide l + 2

abbrev pub decreases-quantify : goal.decreases-quantify
decreases-quantify l = 4 * goal.size-quantify l + 2

abbrev pub decreases-localise : goal.decreases-localise
decreases-localise l = 4 * goal.size-localise l + 2

abbrev pub decreases-members : goal.decreases-members
decreases-members l = 4 * goal.size-members l + 1

abbrev pub decreases-locals : goal.decreases-locals
decreases-locals l = 4 * goal.size-locals l + 3

abbrev pub decreases-local_value : goal.decreases-local_value
decreases-local_value l = 4 * goal.size-local_value l + 1
