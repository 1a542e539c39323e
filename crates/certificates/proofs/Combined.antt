-- A combination that the program forms is the sorted one of the definition, and the tests of the limit tell the truth of it.
use Rattle.std.proofs.Common.{◌≡◌, true, false, sym, ◌∙◌}
use Rattle.std.proofs.Math.IntN.{ℤ}
use Rattle.logic_meaning.specs.Combining.{CombinesWithin, CombinePasses}
use Rattle.logic_meaning.specs.Form.{Form, combine}
use Rattle.logic_meaning.specs.Sorted.{gathered}
use Rattle.formula_laws.proofs.Gathered.{gathered_combination}
use Rattle.linear_forms.specs.Combinations.{IsCombination}
use Rattle.elimination_theory.proofs.WithinTests.{combination_refused, combination_tested}

pub combined : (a : ℤ) (f : Form) (b : ℤ) (g r : Form) → IsCombination a f b g r → r ≡ gathered (combine a f b g)
combined a f b g r k = sym (gathered_combination a f b g r k.linear.sorted k.coefficients_add k.constants_add)

-- what forms no number past the limit passes none
pub not_passed : (a : ℤ) (f : Form) (b : ℤ) (g : Form) → CombinesWithin a f b g → ¬ (CombinePasses a f b g)
not_passed a f b g w h = let e : true ≡ false = sym (combination_tested a f b g w) ∙ combination_refused a f b g h in cc
