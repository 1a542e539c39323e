use Rattle.exact_numbers.specs.Fraction.{frac_of}
use Rattle.written_syntax.specs.PointNumbers.{point_of}
use Rattle.written_syntax.specs.CodeTrees.{term_tree}
use Rattle.written_syntax.proofs.CongruenceLaw.{modulus_not_zero}
use Rattle.written_syntax.proofs.ValueLaw.{calculated_stands, below_positive}
use Rattle.written_syntax.proofs.truth.congruence_truth.Goals as goal

pub divides-requires : goal.divides-requires
divides-requires c =
    let at = c.args.point.now in
    let stands = calculated_stands (term_tree c.args.modulus.now) (point_of at) (frac_of c.in_ok-modulus.modulus) (below_positive at.denominator at.positive) c.in_ok-modulus.ensures.rule in
    modulus_not_zero _ _ stands c.requires.modulus
