-- The places of the integers.
use Rattle.std.specs.Prelude.{◌≡◌, pos, ◌<◌}
use Rattle.logic_meaning.specs.Answer.{Place, Exact, AboveBy, BelowBy, PlusInfinity, MinusInfinity, Periodic}

-- the places of the integers: over a positive scale, or in the residue classes of a period
abbrev pub IsIntegerPlace : Place → Type 0
IsIntegerPlace (Exact e l) = 0 < l
IsIntegerPlace (AboveBy e l) = ⊥
IsIntegerPlace (BelowBy e l) = ⊥
IsIntegerPlace PlusInfinity = ⊥
IsIntegerPlace MinusInfinity = ⊥
IsIntegerPlace (Periodic j q) = ¬ (q ≡ pos 0)
