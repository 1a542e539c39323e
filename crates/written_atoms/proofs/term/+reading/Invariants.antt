use Rattle.std.proofs.Common.{drop, map}
use Rattle.normal_atoms.specs.Atoms.{context_of}
use Rattle.written_syntax.specs.Proper.{AreProperTerms}
use Rattle.language_meaning.specs.Trees.{terms_of}
use Rattle.written_syntax.specs.CodeTrees.{term_tree}
use Rattle.logic_meaning.specs.Names.{place}
use Rattle.written_atoms.proofs.TermSizes.{term_size, terms_size}
use Rattle.written_atoms.proofs.Readings.{SumLeft, ProductLeft}
use Rattle.written_atoms.proofs.term.+reading.Given as goal

abbrev pub decreases-read_term : goal.decreases-read_term
decreases-read_term l = term_size (term_tree l.term.now)

abbrev pub decreases-read_sum : goal.decreases-read_sum
decreases-read_sum l = terms_size (terms_of (map term_tree l.terms.now))

abbrev pub decreases-read_product : goal.decreases-read_product
decreases-read_product l = terms_size (terms_of (map term_tree l.terms.now))

-- what was read of the first members, and the members that are left
abbrev pub invariant-read_sum-loop-term : goal.invariant-read_sum-loop-term
invariant-read_sum-loop-term l = record {
  left : SumLeft (context_of l.context) (place l.names) (terms_of (map term_tree l.terms)) (terms_of (map term_tree (drop l.term-index l.terms))) l.total.total l.total.nonlinear l.total.division;
  proper : AreProperTerms (terms_of (map term_tree (drop l.term-index l.terms)));
}

abbrev pub invariant-read_product-loop-term : goal.invariant-read_product-loop-term
invariant-read_product-loop-term l = record {
  left : ProductLeft (context_of l.context) (place l.names) (terms_of (map term_tree l.terms)) (terms_of (map term_tree (drop l.term-index l.terms))) l.total;
  proper : AreProperTerms (terms_of (map term_tree (drop l.term-index l.terms)));
}
