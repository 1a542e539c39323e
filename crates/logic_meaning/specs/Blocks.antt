-- Prefixes of quantifiers as lists of blocks: the kinds of the blocks take turns, and each block is a list of names, the
-- outermost first. The first block may be empty.
use Rattle.std.specs.Prelude.{ℕ, suc, List, [], ◌∷◌, ◌++◌}
use Rattle.logic_meaning.specs.Formula.{Formula, Formulas, Yes, No, One, Not, And, Or, Impl, Repl, Equiv, Ex, All, none, also}
use Rattle.logic_meaning.specs.declared.quantifier.Quantifier.{Quantifier}
use Rattle.logic_meaning.specs.declared.quantifier.Quantifier.TheVariants.{Exists, ForAll}

-- the kind of the block that comes after one of this kind
abbrev pub other_kind : Quantifier → Quantifier
other_kind Exists = ForAll
other_kind ForAll = Exists

module _ {N : Type 0} where
  -- the name stands before all others of the first block
  abbrev pub in_first : N → List (List N) → List (List N)
  in_first x [] = (x ∷ []) ∷ []
  in_first x (b ∷ bs) = (x ∷ b) ∷ bs

  -- two prefixes that begin with one kind, block by block
  abbrev pub joined_blocks : List (List N) → List (List N) → List (List N)
  joined_blocks [] cs = cs
  joined_blocks (b ∷ bs) [] = b ∷ bs
  joined_blocks (b ∷ bs) (c ∷ cs) = (b ++ c) ∷ joined_blocks bs cs

module _ {A N : Type 0} where
  abbrev mutual
    -- The quantifiers of a formula in negation normal form, where the first block has this kind: each stands in the earliest
    -- block of its kind that the nesting allows, and those of one block in the order of the text.
    pub blocks : Formula A N → Quantifier → List (List N)
    blocks Yes q = []
    blocks No q = []
    blocks (One a) q = []
    blocks (Not f) q = []
    blocks (And fs) q = blocks_of fs q
    blocks (Or fs) q = blocks_of fs q
    blocks (Impl f g) q = []
    blocks (Repl f g) q = []
    blocks (Equiv f g) q = []
    blocks (Ex x f) Exists = in_first x (blocks f Exists)
    blocks (Ex x f) ForAll = [] ∷ in_first x (blocks f Exists)
    blocks (All x f) Exists = [] ∷ in_first x (blocks f ForAll)
    blocks (All x f) ForAll = in_first x (blocks f ForAll)

    -- those of the members
    pub blocks_of : Formulas A N → Quantifier → List (List N)
    blocks_of none q = []
    blocks_of (also f fs) q = joined_blocks (blocks f q) (blocks_of fs q)

  abbrev mutual
    -- a formula in negation normal form without its quantifiers
    pub matrix : Formula A N → Formula A N
    matrix (And fs) = And (matrices fs)
    matrix (Or fs) = Or (matrices fs)
    matrix (Ex x f) = matrix f
    matrix (All x f) = matrix f
    matrix f = f

    -- those of the members
    pub matrices : Formulas A N → Formulas A N
    matrices none = none
    matrices (also f fs) = also (matrix f) (matrices fs)

  -- how many blocks of quantifiers begin after a quantifier of this kind
  abbrev pub later_blocks : Quantifier → Formula A N → ℕ
  later_blocks Exists (Ex x f) = later_blocks Exists f
  later_blocks Exists (All x f) = suc (later_blocks ForAll f)
  later_blocks ForAll (Ex x f) = suc (later_blocks Exists f)
  later_blocks ForAll (All x f) = later_blocks ForAll f
  later_blocks q f = 0

  -- how many blocks the prefix of the formula has: a block is a longest run of equal quantifiers
  abbrev pub block_count : Formula A N → ℕ
  block_count (Ex x f) = suc (later_blocks Exists f)
  block_count (All x f) = suc (later_blocks ForAll f)
  block_count f = 0
