-- What the merge of two lists of terms keeps.
use Rattle.std.specs.Prelude.{◌≡◌, ◌⊎◌, ℕ, ◌≤◌, ℤ, pos, ◌+ℤ◌, ◌*ℤ◌, List, [], ◌∷◌}
use Rattle.logic_meaning.specs.Form.{Term, total, multiple}
use Rattle.logic_meaning.specs.Sorted.{AllAbove, IsRising, AllNonzero}
use Rattle.logic_meaning.specs.Terms.{AllInLimit, PlaceWithin}

-- the first name is x or above
abbrev pub FirstAtLeast : ℕ → List Term → Type 0
FirstAtLeast x [] = Unit {0}
FirstAtLeast x (t ∷ ts) = x ≤ t.name

-- the first name is x
abbrev pub FirstIs : ℕ → List Term → Type 0
FirstIs x [] = ⊥
FirstIs x (t ∷ ts) = t.name ≡ x

-- x is the least name of two rising lists
pub record IsNext (x : ℕ) (xs ys : List Term) : Type 0 where
  pub left : FirstAtLeast x xs
  pub right : FirstAtLeast x ys
  pub stands : FirstIs x xs ⊎ FirstIs x ys

-- each name of the first list is below each of the second
abbrev pub Precede : List Term → List Term → Type 0
Precede [] xs = Unit {0}
Precede (t ∷ ts) xs = AllAbove t.name xs × Precede ts xs

-- xs is the multiple k of x, and the terms rest above x
pub record IsPeeled (xs : List Term) (x : ℕ) (k : ℤ) (rest : List Term) : Type 0 where
  pub sums : (at : ℕ → ℤ) → total xs at ≡ k *ℤ at x +ℤ total rest at
  pub above : AllAbove x rest
  pub rising : IsRising rest
  pub kept : (ms : List Term) → Precede ms xs → Precede ms rest

-- the multiples of x are still to come, or their sum is within the limit and none is to come
abbrev pub IsHandled : ℤ → List Term → ℤ → List Term → List Term → List Term → ℕ → Type 0
IsHandled a left b right xs ys x =
    ((multiple x left ≡ multiple x xs) × (multiple x right ≡ multiple x ys))
    ⊎ (PlaceWithin (a *ℤ multiple x left) (b *ℤ multiple x right) × (multiple x xs ≡ pos 0) × (multiple x ys ≡ pos 0))

-- merged is a * left + b * right, but for what is still to come
pub record IsMerged (a : ℤ) (left : List Term) (b : ℤ) (right merged xs ys : List Term) : Type 0 where
  pub sums : (at : ℕ → ℤ) → total merged at +ℤ (a *ℤ total xs at +ℤ b *ℤ total ys at) ≡ a *ℤ total left at +ℤ b *ℤ total right at
  pub rising : IsRising merged
  pub nonzero : AllNonzero merged
  pub within : AllInLimit merged
  pub before_left : Precede merged xs
  pub before_right : Precede merged ys
  pub left_rising : IsRising xs
  pub right_rising : IsRising ys
  pub places : (x : ℕ) → IsHandled a left b right xs ys x
