use Rattle.std.proofs.Common.{◌+◌, ◌*◌, drop, map}
use Rattle.language_meaning.specs.Trees.{terms_of}
use Rattle.written_syntax.specs.CodeTrees.{term_tree}
use Rattle.language_meaning.specs.Value.{HaveName}
use Rattle.formula_resolving.proofs.Measures.{term_nodes, terms_nodes}
use Rattle.free_names.specs.Places.{name_in_scope}
use Rattle.free_names.proofs.Search.{SearchedTo}
use Rattle.free_names.proofs.valued.+terms.Given as goal

abbrev pub invariant-in_terms-loop-term : goal.invariant-in_terms-loop-term
invariant-in_terms-loop-term l =
    SearchedTo (HaveName (terms_of (map term_tree l.terms))) (HaveName (terms_of (map term_tree (drop l.term-index l.terms)))) (name_in_scope l.around.names.now l.around.valued.now l.opened)

abbrev pub decreases-in_term : goal.decreases-in_term
decreases-in_term l = 2 * term_nodes (term_tree l.term.now)

abbrev pub decreases-in_terms : goal.decreases-in_terms
decreases-in_terms l = 2 * terms_nodes (terms_of (map term_tree l.terms.now)) + 1
