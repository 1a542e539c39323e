use Rattle.std.proofs.Common.{◌≡◌, ◌+◌, ◌*◌, map, drop}
use Rattle.smt_tokens.specs.CodeTrees.{expression_tree, local_tree}
use Rattle.smt_tokens.specs.TreeLists.{expressions_of, locals_of}
use Rattle.smt_language.specs.Undeclared.{Known, have_unknown, values_have_unknown}
use Rattle.smt_resolver.specs.KnownAt.{IsKnownAt}
use Rattle.smt_resolver.proofs.Sizes.{expression_size, expressions_size, locals_size}
use Rattle.smt_resolver.proofs.unknown.+unknown.Given as goal

-- the first members have none
abbrev pub invariant-have_unknown-loop-member : goal.invariant-have_unknown-loop-member
invariant-have_unknown-loop-member l = record {
  known : (known : Known) → IsKnownAt l.declared l.initial.bound known → have_unknown known (expressions_of (map expression_tree l.members)) ≡ have_unknown known (expressions_of (map expression_tree (drop l.member-index l.members)));
  bound : l.bound ≡ l.initial.bound;
}

-- the first values have none
abbrev pub invariant-values_have_unknown-loop-local : goal.invariant-values_have_unknown-loop-local
invariant-values_have_unknown-loop-local l = record {
  known : (known : Known) → IsKnownAt l.declared l.initial.bound known → values_have_unknown known (locals_of (map local_tree l.locals)) ≡ values_have_unknown known (locals_of (map local_tree (drop l.local-index l.locals)));
  bound : l.bound ≡ l.initial.bound;
}

abbrev pub decreases-has_unknown : goal.decreases-has_unknown
decreases-has_unknown l = 3 * expression_size (expression_tree l.expression.now) + 1

abbrev pub decreases-unknown_inside : goal.decreases-unknown_inside
decreases-unknown_inside l = 3 * expression_size (expression_tree l.body.now) + 2

abbrev pub decreases-have_unknown : goal.decreases-have_unknown
decreases-have_unknown l = 3 * expressions_size (expressions_of (map expression_tree l.members.now)) + 2

abbrev pub decreases-values_have_unknown : goal.decreases-values_have_unknown
decreases-values_have_unknown l = 3 * locals_size (locals_of (map local_tree l.locals.now)) + 2
