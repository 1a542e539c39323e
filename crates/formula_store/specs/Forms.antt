-- The negation normal forms of a formula and of its negation, made in a store and kept in a table.
use Rattle.std.specs.Prelude.{Bool, true, false, List, IsSome, nat_eq, unwrap_or}
use Rattle.std.specs.declared.hash.FoldHasher.{FoldHasher}
use Rattle.std.specs.declared.hash.BuildHasherDefault.{BuildHasherDefault}
use Rattle.std.specs.HashMap.{get, HashMap}
use Rattle.logic_meaning.specs.Tree.{Tree}
use Rattle.logic_meaning.specs.NegationNormal.{normal_form, normal_form_of_not}
use Rattle.logic_meaning.specs.NormalForm.{negated_normal}
use Rattle.formula_tree.specs.declared.shape.Shape.{Shape}
use Rattle.formula_tree.specs.Makers.{IsMade}
use Rattle.formula_store.specs.declared.id.FormulaId.{FormulaId}
use Rattle.formula_store.specs.Nodes.{tree, IsId}
use Rattle.formula_store.specs.declared.forms.Forms.{Forms}

-- the negation normal form of a formula (false), or of its negation (true)
abbrev pub form : Bool → Tree → Tree
form false f = normal_form negated_normal f
form true f = normal_form_of_not negated_normal f

-- the id of the one or the other
abbrev pub side : Bool → Forms → FormulaId
side false forms = forms.plain
side true forms = forms.negated

-- forms by the ids of their formulas
abbrev pub Table : Type 0
Table = HashMap FormulaId Forms (BuildHasherDefault FoldHasher)

abbrev pub same_id : FormulaId → FormulaId → Bool
same_id a b = nat_eq a.number b.number

-- the id that a table has for the one or the other
abbrev pub form_at : Table → Bool → FormulaId → FormulaId
form_at table negated id = side negated (unwrap_or (get same_id table id) (record { plain = id; negated = id }))

-- a table has both forms of the formula with this id
pub record Known (nodes : List (Shape FormulaId)) (table : Table) (id : FormulaId) : Type 0 where
  pub is : IsId nodes id
  pub there : IsSome (get same_id table id)
  pub made : (negated : Bool) → IsMade (IsId nodes) (tree nodes) (form_at table negated id) (form negated (tree nodes id))
