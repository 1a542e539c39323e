-- The prenex form of a formula, and what is proved of it.
use Rattle.std.specs.Prelude.{ℕ}
use Rattle.logic_meaning.specs.Context.{Context}
use Rattle.logic_meaning.specs.Replaced.{replaced}
use Rattle.logic_meaning.specs.Tree.{Tree}
use Rattle.logic_meaning.specs.NormalForm.{normal_atom}
use Rattle.logic_meaning.specs.Front.{in_front}
use Rattle.logic_meaning.specs.Renaming.{with_chosen_names}

-- The prenex form of a formula in negation normal form, where count names are known: quantified names that clash get new
-- ones, the quantifiers go in front, and each atom is brought to normal form again.
abbrev pub prenex_of : Context → ℕ → Tree → Tree
prenex_of c count f = replaced (normal_atom c) (λ x. x) (in_front (with_chosen_names count f))

-- ---- the laws
