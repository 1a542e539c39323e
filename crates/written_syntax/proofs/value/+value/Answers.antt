use Rattle.std.proofs.Common.{rules, subst, sym}
use Rattle.written_syntax.specs.declared.tree.Term.TheFolds.{the_lemmas}
use Rattle.written_syntax.specs.Proper.{IsProperTerm}
use Rattle.written_syntax.proofs.TermParts.{sum_is, product_is, negative_is, quotient_is, power_is}
use Rattle.written_syntax.proofs.ValueLaw.{calculated_stands, below_positive}
use Rattle.written_syntax.specs.CodeTrees.{term_tree}
use Rattle.written_syntax.specs.PointNumbers.{point_of}
use Rattle.exact_numbers.specs.Fraction.{frac_of}
use Rattle.written_syntax.proofs.value.+value.Goals as goal

pub term_value-sum_value-requires : goal.term_value-sum_value-requires
term_value-sum_value-requires t c =
    let e = sum_is _ _ _ c.in-Sum.is c.deref.ensures.value in
    (search (rules, the_lemmas), (subst IsProperTerm e c.requires).1)

pub term_value-product_value-requires : goal.term_value-product_value-requires
term_value-product_value-requires t c =
    let e = product_is _ _ _ c.in-Product.is c.deref-in-Product.ensures.value in
    (search (rules, the_lemmas), (subst IsProperTerm e c.requires).1)

pub term_value-term_value-requires : goal.term_value-term_value-requires
term_value-term_value-requires t c =
    let e = negative_is _ _ _ c.in-Negative.is c.deref-in-Negative.ensures in
    (search (rules, the_lemmas), subst IsProperTerm e c.requires)

pub term_value-term_value-requires-in-Quotient : goal.term_value-term_value-requires-in-Quotient
term_value-term_value-requires-in-Quotient t c =
    let parts = subst IsProperTerm (quotient_is _ _ _ c.in-Quotient.is) c.requires in
    (search (rules, the_lemmas), subst (λ x. IsProperTerm (term_tree x)) (sym c.deref-in-Quotient.ensures) parts.0)

pub term_value-term_value-requires-in-Quotient-2 : goal.term_value-term_value-requires-in-Quotient-2
term_value-term_value-requires-in-Quotient-2 t c =
    let parts = subst IsProperTerm (quotient_is _ _ _ c.in-Quotient.is) c.requires in
    (search (rules, the_lemmas), subst (λ x. IsProperTerm (term_tree x)) (sym c.deref-in-Quotient-2.ensures) parts.1)

pub term_value-term_value-requires-in-Power : goal.term_value-term_value-requires-in-Power
term_value-term_value-requires-in-Power t c =
    let parts = subst IsProperTerm (power_is _ _ _ c.in-Power.is) c.requires in
    (search (rules, the_lemmas), subst (λ x. IsProperTerm (term_tree x)) (sym c.deref-in-Power.ensures) parts.0)

pub term_value-power_value-requires-clause-lowest : goal.term_value-power_value-requires-clause-lowest
term_value-power_value-requires-clause-lowest t c =
    let at = c.args.point.now in
    (calculated_stands (term_tree c.deref-in-Power.result.now) (point_of at) (frac_of c.in_ok-base-in-Power.base) (below_positive at.denominator at.positive) c.in_ok-base-in-Power.ensures).in_lowest
