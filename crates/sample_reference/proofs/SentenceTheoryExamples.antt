-- Formulas under names, and their leading blocks.
use Rattle.std.proofs.Common.{◌≡◌, [], ◌∷◌, refl}
use Rattle.std.proofs.Math.IntN.{pos}
use Rattle.exact_numbers.specs.Frac.{whole_frac}
use Rattle.logic_meaning.specs.Formula.{Yes, Ex}
use Rattle.logic_meaning.specs.Tree.{Tree}
use Rattle.logic_meaning.specs.Cases.{case_names}
use Rattle.sample_reference.specs.Leading.{under_names, named_from, first_values}

two_names : (f : Tree) → under_names 0 2 f ≡ Ex 0 (Ex 1 f)
two_names f = refl

-- the block goes on into the formula under the names,
longer_block : case_names (under_names 0 1 (Ex 1 Yes)) ≡ 0 ∷ 1 ∷ []
longer_block = refl

-- but not past a name that stands in it already
ended_block : case_names (under_names 0 2 (Ex 1 Yes)) ≡ 0 ∷ 1 ∷ []
ended_block = refl

-- the first values of a sample, with their names again
named_again : named_from 0 (first_values 1 (named_from 0 (whole_frac (pos 5) ∷ whole_frac (pos 7) ∷ []))) ≡ record { name = 0; at = whole_frac (pos 5) } ∷ []
named_again = refl
