-- Which nodes stand in a formula, and lists of them.
use Rattle.std.specs.BTreeSet.{BTreeSet, contains}
use Rattle.std.specs.Ordering.{nat_cmp}
use Rattle.std.specs.Prelude.{◌≡◌, ℕ, ◌<◌, ◌≤◌, Bool, true, false, List, [], ◌∷◌, Some, slice_get, length, ◌⊎◌}
use Rattle.std.specs.List.{AllByRecursion}
use Rattle.logic_meaning.specs.Some.{SomeOf, Among}
use Rattle.formula_tree.specs.declared.shape.Shape.{Shape}
use Rattle.formula_tree.specs.declared.shape.Shape.TheVariants as shape
use Rattle.formula_tree.specs.Shapes.{ids_of}
use Rattle.formula_store.specs.declared.id.FormulaId.{FormulaId}

-- the second is the first, or stands in a member of it
pub data Within (nodes : List (Shape FormulaId)) : FormulaId → FormulaId → Type 0 where
  itself : {a : FormulaId} → Within nodes a a
  inside : {a m b : FormulaId} (n : Shape FormulaId) → slice_get nodes a.number ≡ Some n → SomeOf (λ i. i ≡ m) (ids_of n) → Within nodes m b → Within nodes a b

-- it stands in some of the formulas
abbrev pub WithinSome : List (Shape FormulaId) → List FormulaId → FormulaId → Type 0
WithinSome nodes roots x = SomeOf (λ r. Within nodes r x) roots

-- the numbers of the ids are above x and rise
abbrev pub RisesFrom : ℕ → List FormulaId → Type 0
RisesFrom x [] = Unit {0}
RisesFrom x (a ∷ ids) = (x < a.number) × RisesFrom a.number ids

-- the numbers of the ids rise, so each stands once and after its members
abbrev pub Rises : List FormulaId → Type 0
Rises [] = Unit {0}
Rises (a ∷ ids) = RisesFrom a.number ids

-- the nodes of some formulas, each once, each after its members
pub record IsOrder (nodes : List (Shape FormulaId)) (roots ids : List FormulaId) : Type 0 where
  pub rises : Rises ids
  pub all : (x : FormulaId) → WithinSome nodes roots x → SomeOf (λ i. i ≡ x) ids
  pub only : AllByRecursion (WithinSome nodes roots) ids

-- the numbers in a set, of which each waits
abbrev pub waits : BTreeSet ℕ → ℕ → Bool
waits set k = contains nat_cmp set k

-- nothing stands in a node of this shape
abbrev pub is_leaf : Shape FormulaId → Bool
is_leaf shape.True = true
is_leaf shape.False = true
is_leaf (shape.One a) = true
is_leaf n = false

-- the id waits as well, and nothing else
pub record Adds (id : FormulaId) (old new : ℕ → Bool) : Type 0 where
  pub here : new id.number ≡ true
  pub others : (k : ℕ) → ¬ (k ≡ id.number) → new k ≡ old k

-- the node waits, or nothing stands in it
abbrev pub IsLooked : List (Shape FormulaId) → (ℕ → Bool) → FormulaId → Type 0
IsLooked nodes waiting x = (waiting x.number ≡ true) ⊎ ((n : Shape FormulaId) → slice_get nodes x.number ≡ Some n → ids_of n ≡ [])

-- those of the ids wait as well in which something stands, and nothing else
pub record Meets (nodes : List (Shape FormulaId)) (ids : List FormulaId) (old new : ℕ → Bool) : Type 0 where
  pub kept : (k : ℕ) → old k ≡ true → new k ≡ true
  pub these : AllByRecursion (IsLooked nodes new) ids
  pub none_else : (k : ℕ) → new k ≡ true → (old k ≡ true) ⊎ SomeOf (λ id. id.number ≡ k) ids

-- the number waits no more
pub record Takes (k : ℕ) (old new : ℕ → Bool) : Type 0 where
  pub was : old k ≡ true
  pub greatest : (i : ℕ) → old i ≡ true → i ≤ k
  pub others : (i : ℕ) → ¬ (i ≡ k) → new i ≡ old i
  pub gone : new k ≡ false

-- Down from some formulas: they are met, what is met stands in them, and what waits is met. The members of what is met are met,
-- unless it waits.
pub record Walks (nodes : List (Shape FormulaId)) (roots : List FormulaId) (waiting : ℕ → Bool) (met : List FormulaId) : Type 0 where
  pub waits_met : (k : ℕ) → waiting k ≡ true → Among met (record { number = k })
  pub sound : (x : FormulaId) → Among met x → (x.number < length nodes) × WithinSome nodes roots x
  pub roots_met : AllByRecursion (Among met) roots
  pub closed : (x : FormulaId) (n : Shape FormulaId) → Among met x → slice_get nodes x.number ≡ Some n → (waiting x.number ≡ true) ⊎ AllByRecursion (Among met) (ids_of n)
