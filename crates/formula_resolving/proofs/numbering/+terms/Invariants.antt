use Rattle.std.proofs.Common.{◌+◌, ◌*◌, drop, map}
use Rattle.language_meaning.specs.Trees.{terms_of}
use Rattle.written_syntax.specs.CodeTrees.{term_tree}
use Rattle.language_meaning.specs.Resolving.{variables_in}
use Rattle.formula_resolving.specs.Numbering.{Grows}
use Rattle.formula_resolving.proofs.Measures.{term_nodes, terms_nodes}
use Rattle.formula_resolving.proofs.Numbered.{Remains}
use Rattle.formula_resolving.proofs.numbering.+terms.Given as goal

abbrev pub invariant-number_terms-loop-term : goal.invariant-number_terms-loop-term
invariant-number_terms-loop-term g l = record {
  remains : Remains l.bound (variables_in (terms_of (map term_tree l.terms))) (variables_in (terms_of (map term_tree (drop l.term-index l.terms)))) l.initial.names l.names l.met;
  grown : Grows l.initial.names l.names;
}

abbrev pub decreases-number_term : goal.decreases-number_term
decreases-number_term g l = 2 * term_nodes (term_tree l.term.now)

abbrev pub decreases-number_terms : goal.decreases-number_terms
decreases-number_terms g l = 2 * terms_nodes (terms_of (map term_tree l.terms.now)) + 1
