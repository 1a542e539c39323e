-- The numbers that are free in shared formulas and do not pass a test, in a table.
use Rattle.std.specs.Prelude.{◌≡◌, ℕ, List, [], Bool, false, IsSome, nat_eq, Option, Some, None}
use Rattle.std.specs.declared.alloc.Global.{Global}
use Rattle.std.specs.declared.vec.Vec.{Vec}
use Rattle.std.specs.declared.hash.FoldHasher.{FoldHasher}
use Rattle.std.specs.declared.hash.BuildHasherDefault.{BuildHasherDefault}
use Rattle.std.specs.HashMap.{get, HashMap}
use Rattle.logic_meaning.specs.Tree.{IsFree}
use Rattle.formula_tree.specs.declared.shape.Shape.{Shape}
use Rattle.formula_store.specs.declared.id.FormulaId.{FormulaId}
use Rattle.formula_store.specs.Nodes.{tree}
use Rattle.free_names.specs.Scopes.{IsIn}

-- these are the numbers that have P and do not pass the test
pub record AreMissing (P : ℕ → Type 0) (has : ℕ → Bool) (numbers : List ℕ) : Type 0 where
  pub only : (n : ℕ) → IsIn n numbers → P n × (has n ≡ false)
  pub all : (n : ℕ) → P n → has n ≡ false → IsIn n numbers

-- lists of numbers by the ids of formulas
abbrev pub Table : Type 0
Table = HashMap FormulaId (Vec ℕ Global) (BuildHasherDefault FoldHasher)

abbrev pub same_id : FormulaId → FormulaId → Bool
same_id a b = nat_eq a.number b.number

-- the table has the formula
abbrev pub IsThere : Table → FormulaId → Type 0
IsThere table id = IsSome (get same_id table id)

abbrev pub items_of : Option (Vec ℕ Global) → List ℕ
items_of None = []
items_of (Some v) = v.items

-- the numbers that the table has for a formula
abbrev pub numbers_at : Table → FormulaId → List ℕ
numbers_at table id = items_of (get same_id table id)

-- what the table has for a formula are its free numbers that do not pass the test
abbrev pub IsSound : List (Shape FormulaId) → (ℕ → Bool) → Table → Type 0
IsSound nodes has table = (id : FormulaId) → IsThere table id → AreMissing (IsFree (tree nodes id)) has (numbers_at table id)
