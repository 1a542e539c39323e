use Rattle.std.proofs.Common.{◌≡◌, drop}
use Rattle.logic_meaning.specs.declared.quantifier.Quantifier.TheVariants.{Exists}
use Rattle.language_meaning.specs.Holes.{alone}
use Rattle.written_syntax.specs.CodeTrees.{formula_tree, inner_of}
use Rattle.language_meaning.specs.QuantifiedNames.{quantified_names}
use Rattle.constraint_queries.proofs.problem.with_quantifiers.Given as goal

-- the quantifiers of the last names stand before the formula, and no command stands inside
abbrev pub invariant-loop-number : goal.invariant-loop-number
invariant-loop-number l = record {
  tree : formula_tree l.quantified ≡ quantified_names Exists (drop l.number l.names) (formula_tree l.fn.formula);
  plain : inner_of l.quantified ≡ alone;
}
