-- A formula with all its quantifiers in front.
use Rattle.std.specs.Prelude.{List, [], ◌∷◌, nat_lt, if◌then◌else◌}
use Rattle.logic_meaning.specs.Formula.{Formula, Ex, All}
use Rattle.logic_meaning.specs.Shape.{blocks_from}
use Rattle.logic_meaning.specs.declared.quantifier.Quantifier.{Quantifier}
use Rattle.logic_meaning.specs.declared.quantifier.Quantifier.TheVariants.{Exists, ForAll}
use Rattle.logic_meaning.specs.Blocks.{other_kind, blocks, matrix}

module _ {A N : Type 0} where
  -- ex, or all
  abbrev pub quantified : Quantifier → N → Formula A N → Formula A N
  quantified Exists x f = Ex x f
  quantified ForAll x f = All x f

  -- a block of quantifiers before the formula
  abbrev pub block : Quantifier → List N → Formula A N → Formula A N
  block q [] f = f
  block q (x ∷ xs) f = quantified q x (block q xs f)

  -- a prefix before the formula
  abbrev pub prefixed : Quantifier → List (List N) → Formula A N → Formula A N
  prefixed q [] f = f
  prefixed q (b ∷ bs) f = block q b (prefixed (other_kind q) bs f)

  -- the kind of the first block: ex, where all has not fewer blocks
  abbrev pub first_kind : Formula A N → Quantifier
  first_kind f = if nat_lt (blocks_from f ForAll) (blocks_from f Exists) then ForAll else Exists

  -- the formula in negation normal form with its quantifiers in front
  abbrev pub in_front : Formula A N → Formula A N
  in_front f = prefixed (first_kind f) (blocks f (first_kind f)) (matrix f)
