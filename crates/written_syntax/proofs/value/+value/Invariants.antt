use Rattle.std.proofs.Common.{◌≡◌, drop, map}
use Rattle.std.specs.Prelude.{pos}
use Rattle.exact_numbers.specs.Frac.{whole_frac}
use Rattle.exact_numbers.specs.Fraction.{frac_of}
use Rattle.language_meaning.specs.Trees.{terms_of}
use Rattle.written_syntax.specs.CodeTrees.{term_tree}
use Rattle.written_syntax.specs.Proper.{AreProperTerms}
use Rattle.written_syntax.specs.PointNumbers.{point_of}
use Rattle.written_syntax.specs.Rule.{added, multiplied}
use Rattle.written_syntax.proofs.value.+value.Given as goal

-- the total so far and the members that are left give what all members give
abbrev pub invariant-sum_value-loop-term : goal.invariant-sum_value-loop-term
invariant-sum_value-loop-term l = record {
  rule : added (frac_of l.total) (terms_of (map term_tree (drop l.term-index l.terms))) (point_of l.point)
      ≡ added (whole_frac (pos 0)) (terms_of (map term_tree l.terms)) (point_of l.point);
  proper : AreProperTerms (terms_of (map term_tree (drop l.term-index l.terms)));
}

abbrev pub invariant-product_value-loop-term : goal.invariant-product_value-loop-term
invariant-product_value-loop-term l = record {
  rule : multiplied (frac_of l.total) (terms_of (map term_tree (drop l.term-index l.terms))) (point_of l.point)
      ≡ multiplied (whole_frac (pos 1)) (terms_of (map term_tree l.terms)) (point_of l.point);
  proper : AreProperTerms (terms_of (map term_tree (drop l.term-index l.terms)));
}
