-- Truths of the distinct subformulas of a formula, in a table.
use Rattle.std.specs.Prelude.{◌≡◌, Bool, true, false, ◌&&◌, ◌||◌, List, [], ◌∷◌, IsSome, unwrap_or}
use Rattle.std.specs.HashMap.{get}
use Rattle.logic_meaning.specs.Atom.{Atom}
use Rattle.formula_tree.specs.declared.shape.Shape.{Shape}
use Rattle.formula_store.specs.declared.id.FormulaId.{FormulaId}
use Rattle.formula_store.specs.Nodes.{tree, IsId}
use Rattle.formula_store.specs.Order.{IsOrder}
use Rattle.formula_store.specs.Tables.{TableOf, same_id, Has}
use Rattle.linear_theory.specs.Answer.{truth_by}
use Rattle.linear_opt.specs.declared.truths.Listed.{Listed}

-- the ids are those of the formula's distinct subformulas, members first
pub record IsListed (l : Listed) : Type 0 where
  pub id : IsId l.store.now l.root
  pub order : IsOrder l.store.now (l.root ∷ []) l.ids.now

-- the table has a truth for the formula
abbrev pub IsThere : TableOf Bool → FormulaId → Type 0
IsThere table id = IsSome (get same_id table id)

-- the truth that the table has for the formula
abbrev pub truth_in : TableOf Bool → FormulaId → Bool
truth_in table id = unwrap_or (get same_id table id) false

-- the table has the formula's truth, from that of its atoms
abbrev pub HasTruth : (Atom → Bool) → List (Shape FormulaId) → TableOf Bool → FormulaId → Type 0
HasTruth told nodes table id = Has (λ m b. b ≡ truth_by told (tree nodes m)) table id

-- whether each passes the test, and whether some does
module _ {Id : Type 0} (test : Id → Bool) where
  abbrev pub all_of : List Id → Bool
  all_of [] = true
  all_of (id ∷ ids) = test id && all_of ids

  abbrev pub some_of : List Id → Bool
  some_of [] = false
  some_of (id ∷ ids) = test id || some_of ids
