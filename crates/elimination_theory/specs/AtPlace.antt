-- A formula in which each atom is put to a place.
use Rattle.std.specs.Prelude.{ℕ, List, [], ◌∷◌}
use Rattle.logic_meaning.specs.Answer.{Answer, Place}

-- the one answer that puts x at the place
abbrev pub at_place : ℕ → Place → List Answer
at_place x s = record { name = x; place = s } ∷ []
