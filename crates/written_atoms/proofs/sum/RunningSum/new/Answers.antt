use Rattle.std.proofs.Common.{refl}
use Rattle.std.proofs.Math.IntN.{pos}
use Rattle.exact_numbers.specs.Frac.{whole_frac}
use Rattle.exact_numbers.proofs.FractionRule.{whole_lowest}
use Rattle.language_meaning.specs.RationalForms.{constant_form}
use Rattle.resolved_formulas.proofs.LowestForms.{constant_lowest}
use Rattle.written_atoms.proofs.SharedSums.{form_by_name}
use Rattle.written_atoms.proofs.sum.RunningSum.new.Goals as goal

pub returns : goal.returns
returns c = (constant_form (whole_frac (pos 0)), refl, form_by_name _ (constant_form (whole_frac (pos 0))) (constant_lowest (whole_frac (pos 0)) (whole_lowest (pos 0))) c.of.ensures refl)
