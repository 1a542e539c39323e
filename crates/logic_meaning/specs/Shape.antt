-- Shapes of formulas: quantifier-free, built by and and or alone, negation normal, prenex; blocks of quantifiers.
use Rattle.std.specs.Prelude.{ℕ, suc, max, min, Bool, true, false, List, [], ◌∷◌, if◌then◌else◌}
use Rattle.logic_meaning.specs.Formula.{Formula, Formulas, Yes, No, One, Not, And, Or, Impl, Repl, Equiv, Ex, All, none, also}
use Rattle.logic_meaning.specs.declared.quantifier.Quantifier.{Quantifier}
use Rattle.logic_meaning.specs.declared.quantifier.Quantifier.TheVariants.{Exists, ForAll}

-- the formula under the quantifier of the name
abbrev pub quantified : {A N : Type 0} → Quantifier → N → Formula A N → Formula A N
quantified Exists x f = Ex x f
quantified ForAll x f = All x f

module _ {A N : Type 0} where
  abbrev mutual
    -- no quantifier stands in the formula
    pub IsQuantifierFree : Formula A N → Type 0
    IsQuantifierFree Yes = Unit {0}
    IsQuantifierFree No = Unit {0}
    IsQuantifierFree (One a) = Unit {0}
    IsQuantifierFree (Not f) = IsQuantifierFree f
    IsQuantifierFree (And fs) = AreQuantifierFree fs
    IsQuantifierFree (Or fs) = AreQuantifierFree fs
    IsQuantifierFree (Impl f g) = IsQuantifierFree f × IsQuantifierFree g
    IsQuantifierFree (Repl f g) = IsQuantifierFree f × IsQuantifierFree g
    IsQuantifierFree (Equiv f g) = IsQuantifierFree f × IsQuantifierFree g
    IsQuantifierFree (Ex x f) = ⊥
    IsQuantifierFree (All x f) = ⊥

    -- no quantifier stands in any member
    pub AreQuantifierFree : Formulas A N → Type 0
    AreQuantifierFree none = Unit {0}
    AreQuantifierFree (also f fs) = IsQuantifierFree f × AreQuantifierFree fs

  -- quantifiers over a quantifier-free formula
  abbrev pub IsPrenex : Formula A N → Type 0
  IsPrenex (Ex x f) = IsPrenex f
  IsPrenex (All x f) = IsPrenex f
  IsPrenex Yes = Unit {0}
  IsPrenex No = Unit {0}
  IsPrenex (One a) = Unit {0}
  IsPrenex (Not f) = IsQuantifierFree f
  IsPrenex (And fs) = AreQuantifierFree fs
  IsPrenex (Or fs) = AreQuantifierFree fs
  IsPrenex (Impl f g) = IsQuantifierFree f × IsQuantifierFree g
  IsPrenex (Repl f g) = IsQuantifierFree f × IsQuantifierFree g
  IsPrenex (Equiv f g) = IsQuantifierFree f × IsQuantifierFree g

  abbrev mutual
    -- The blocks of the shortest prenex prefix that begins with the quantifier and keeps the nesting of a formula in
    -- negation normal form. A block is a longest run of equal quantifiers; the first may be empty.
    pub blocks_from : Formula A N → Quantifier → ℕ
    blocks_from Yes q = 0
    blocks_from No q = 0
    blocks_from (One a) q = 0
    blocks_from (Not f) q = 0
    blocks_from (And fs) q = most_blocks fs q
    blocks_from (Or fs) q = most_blocks fs q
    blocks_from (Impl f g) q = 0
    blocks_from (Repl f g) q = 0
    blocks_from (Equiv f g) q = 0
    blocks_from (Ex x f) Exists = max 1 (blocks_from f Exists)
    blocks_from (Ex x f) ForAll = suc (max 1 (blocks_from f Exists))
    blocks_from (All x f) Exists = suc (max 1 (blocks_from f ForAll))
    blocks_from (All x f) ForAll = max 1 (blocks_from f ForAll)

    -- the most of any member
    pub most_blocks : Formulas A N → Quantifier → ℕ
    most_blocks none q = 0
    most_blocks (also f fs) q = max (blocks_from f q) (most_blocks fs q)

  -- the fewest blocks of a prenex form that keeps the nesting of quantifiers
  abbrev pub fewest_blocks : Formula A N → ℕ
  fewest_blocks f = min (blocks_from f Exists) (blocks_from f ForAll)

-- the name is in the list
abbrev pub is_in : {N : Type 0} → (N → N → Bool) → N → List N → Bool
is_in same x [] = false
is_in same x (y ∷ ys) = if same x y then true else is_in same x ys

module _ {A N : Type 0} (same : N → N → Bool) where
  -- The names of the leading block of a formula in negation normal form: the longest chain of one quantifier from the
  -- outside, which stops before a name that already stands in it.
  abbrev pub block_of : Formula A N → Quantifier → List N → List N
  block_of (Ex x f) Exists chain = if is_in same x chain then [] else x ∷ block_of f Exists (x ∷ chain)
  block_of (All x f) ForAll chain = if is_in same x chain then [] else x ∷ block_of f ForAll (x ∷ chain)
  block_of _ _ chain = []

  -- what is left of the formula without that block
  abbrev pub matrix_of : Formula A N → Quantifier → List N → Formula A N
  matrix_of (Ex x f) Exists chain = if is_in same x chain then Ex x f else matrix_of f Exists (x ∷ chain)
  matrix_of (All x f) ForAll chain = if is_in same x chain then All x f else matrix_of f ForAll (x ∷ chain)
  matrix_of f _ chain = f
