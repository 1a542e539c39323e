-- A list as its atoms and its other members.
use Rattle.std.specs.Prelude.{ℕ, List, [], ◌∷◌}
use Rattle.logic_meaning.specs.Formula.{Formulas, One, also}

module _ {A : Type 0} where
  -- the atoms, then the others
  abbrev pub ones : List A → Formulas A ℕ → Formulas A ℕ
  ones [] gs = gs
  ones (a ∷ us) gs = also (One a) (ones us gs)
