use Rattle.std.proofs.Common.{◌≡◌, ◌++◌, drop, map}
use Rattle.std.specs.List.{fold}
use Rattle.language_meaning.specs.Trees.{terms_of}
use Rattle.written_syntax.specs.CodeTrees.{term_tree, term_trees}
use Rattle.logic_meaning.specs.Names.{with_name}
use Rattle.language_meaning.specs.Resolving.{variables_in}
use Rattle.written_atoms.proofs.TermSizes.{term_size, terms_size}
use Rattle.constraint_queries.proofs.copies.+copied.Given as goal

abbrev pub decreases-copied_term : goal.decreases-copied_term
decreases-copied_term l = term_size (term_tree l.term.now)

abbrev pub decreases-copied_terms : goal.decreases-copied_terms
decreases-copied_terms l = terms_size (term_trees l.terms.now)

-- the copies so far and the members that are left, and the names with those of the members that are left
abbrev pub invariant-copied_terms-loop-term : goal.invariant-copied_terms-loop-term
invariant-copied_terms-loop-term l = record {
  same : map term_tree l.copies.items ++ map term_tree (drop l.term-index l.term-items) ≡ map term_tree l.term-items;
  numbered : fold with_name l.names (variables_in (terms_of (map term_tree (drop l.term-index l.term-items)))) ≡ fold with_name l.fn.names (variables_in (terms_of (map term_tree l.term-items)));
}
