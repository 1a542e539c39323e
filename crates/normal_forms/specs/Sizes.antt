-- The program's sizes of plain forms, and tables of them.
use Rattle.std.specs.Prelude.{◌≡◌, ℕ, min, Bool, false, Option, Some, None, List, [], ◌∷◌, IsSome}
use Rattle.std.specs.declared.hash.FoldHasher.{FoldHasher}
use Rattle.std.specs.declared.hash.BuildHasherDefault.{BuildHasherDefault}
use Rattle.std.specs.HashMap.{get, HashMap}
use Rattle.logic_meaning.specs.declared.junction.Junction.{Junction}
use Rattle.formula_tree.specs.declared.shape.Shape.{Shape}
use Rattle.formula_store.specs.declared.id.FormulaId.{FormulaId}
use Rattle.formula_store.specs.Nodes.{tree, IsId}
use Rattle.shape_theory.specs.Counts as counts
use Rattle.shape_theory.specs.Counts.{nothing_sizes, joined_sizes, sizes}
use Rattle.normal_forms.specs.declared.sizes.Sizes.{Sizes}
use Rattle.normal_forms.specs.Atoms.{same_id}

-- more count as so many
abbrev pub most : ℕ
most = 18446744073709551615

-- the program's sizes for these
abbrev pub capped : counts.Sizes → Sizes
capped x = record { lines = min x.lines most; places = min x.places most }

abbrev pub counted : Sizes → counts.Sizes
counted x = record { lines = x.lines; places = x.places }

-- those of some members together, beside the sizes so far
abbrev pub all_joined : Bool → Sizes → List Sizes → Sizes
all_joined b x [] = x
all_joined b x (y ∷ ys) = all_joined b (capped (joined_sizes b (counted x) (counted y))) ys

-- sizes by the ids of formulas
abbrev pub Table : Type 0
Table = HashMap FormulaId Sizes (BuildHasherDefault FoldHasher)

-- the table has the formula
abbrev pub IsThere : Table → FormulaId → Type 0
IsThere table id = IsSome (get same_id table id)

abbrev pub or_nothing : Option Sizes → Sizes
or_nothing None = capped (nothing_sizes false)
or_nothing (Some x) = x

-- what the table has for a formula
abbrev pub sizes_at : Table → FormulaId → Sizes
sizes_at table id = or_nothing (get same_id table id)

-- what the table has are the sizes of the plain forms of formulas
pub record IsTold (j : Junction) (nodes : List (Shape FormulaId)) (table : Table) : Type 0 where
  pub ids : (id : FormulaId) → IsThere table id → IsId nodes id
  pub told : (id : FormulaId) → IsThere table id → sizes_at table id ≡ capped (sizes j (tree nodes id))
