-- Tables of values by ids.
use Rattle.std.specs.Prelude.{◌≡◌, Bool, Some, nat_eq}
use Rattle.std.specs.declared.hash.FoldHasher.{FoldHasher}
use Rattle.std.specs.declared.hash.BuildHasherDefault.{BuildHasherDefault}
use Rattle.std.specs.HashMap.{get, HashMap}
use Rattle.formula_store.specs.declared.id.FormulaId.{FormulaId}

abbrev pub TableOf : Type 0 → Type 0
TableOf V = HashMap FormulaId V (BuildHasherDefault FoldHasher)

abbrev pub same_id : FormulaId → FormulaId → Bool
same_id a b = nat_eq a.number b.number

-- the table has a value for the id, and P holds of both
pub record Has {V : Type 0} (P : FormulaId → V → Type 0) (table : TableOf V) (id : FormulaId) : Type 0 where
  pub value : V
  pub there : get same_id table id ≡ Some value
  pub holds : P id value
