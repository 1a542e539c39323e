use Rattle.std.proofs.Common.{drop, map}
use Rattle.std.specs.Ordering.{nat_cmp}
use Rattle.std.specs.Cmp.Lexicographic.{slice_cmp}
use Rattle.std.specs.BTreeSet.{contains}
use Rattle.language_meaning.specs.Trees.{terms_of}
use Rattle.written_syntax.specs.CodeTrees.{term_tree}
use Rattle.language_meaning.specs.Value.{HaveName}
use Rattle.written_syntax.proofs.NameSearch.{SearchedTo}
use Rattle.written_syntax.proofs.valued.+terms.Given as goal

abbrev pub invariant-in_terms-loop-term : goal.invariant-in_terms-loop-term
invariant-in_terms-loop-term l =
    SearchedTo (HaveName (terms_of (map term_tree l.terms))) (HaveName (terms_of (map term_tree (drop l.term-index l.terms)))) (contains (slice_cmp nat_cmp) l.names)
