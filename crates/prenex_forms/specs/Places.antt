-- The quantifiers of a formula in the order of the text, each with the block of the prefix that it stands in.
use Rattle.std.specs.Prelude.{ℕ, zero, suc, ◌+◌, ◌%◌, List, [], ◌∷◌, ◌++◌, nat_eq, if◌then◌else◌}
use Rattle.logic_meaning.specs.Formula.{And, Or, Ex, All, none, also}
use Rattle.logic_meaning.specs.declared.quantifier.Quantifier.{Quantifier}
use Rattle.logic_meaning.specs.declared.quantifier.Quantifier.TheVariants.{Exists, ForAll}
use Rattle.logic_meaning.specs.Tree.{Tree, Trees}
use Rattle.logic_meaning.specs.Blocks.{other_kind}
use Rattle.prenex_forms.specs.declared.front.Place.{Place}

abbrev pub place_at : ℕ → ℕ → Place
place_at level x = record { level = level; name = record { number = x } }

-- the block of a quantifier behind a block of this kind with this number: that one, or the next
abbrev pub level_behind : Quantifier → ℕ → Quantifier → ℕ
level_behind Exists l Exists = l
level_behind Exists l ForAll = l + 1
level_behind ForAll l Exists = l + 1
level_behind ForAll l ForAll = l

abbrev mutual
  -- the places of a formula in negation normal form behind a block of this kind, with this number
  pub placed : Quantifier → ℕ → Tree → List Place
  placed q l (And fs) = placed_in q l fs
  placed q l (Or fs) = placed_in q l fs
  placed q l (Ex x f) = place_at (level_behind q l Exists) x ∷ placed Exists (level_behind q l Exists) f
  placed q l (All x f) = place_at (level_behind q l ForAll) x ∷ placed ForAll (level_behind q l ForAll) f
  placed q l f = []

  pub placed_in : Quantifier → ℕ → Trees → List Place
  placed_in q l none = []
  placed_in q l (also f fs) = placed q l f ++ placed_in q l fs

-- the names of one block, in the order of the text
abbrev pub level_names : ℕ → List Place → List ℕ
level_names l [] = []
level_names l (p ∷ ps) = if nat_eq p.level l then p.name.number ∷ level_names l ps else level_names l ps

-- the names of so many blocks, from the one with this number on
abbrev pub levels_of : ℕ → ℕ → List Place → List (List ℕ)
levels_of l zero ps = []
levels_of l (suc n) ps = level_names l ps ∷ levels_of (l + 1) n ps

-- the kind of a block, where the kinds take turns from this one on
abbrev pub kind_at : Quantifier → ℕ → Quantifier
kind_at q l = if nat_eq (l % 2) 0 then q else other_kind q
