-- The truth of a formula from those of its members, which a table has.
use Rattle.std.proofs.Common.{◌≡◌, Bool, true, false, not, refl, sym, ap, ◌∙◌, subst, List, [], ◌∷◌, Some, IsSome, slice_get}
use Rattle.std.specs.Bool.{beq}
use Rattle.std.specs.List.{AllByRecursion}
use Rattle.std.specs.Prelude.{◌||◌, ◌&&◌, unwrap_or}
use Rattle.logic_meaning.specs.Atom.{Atom}
use Rattle.formula_tree.specs.declared.shape.Shape.{Shape}
use Rattle.formula_tree.specs.Shapes.{AllIds, tree_over}
use Rattle.formula_store.specs.declared.id.FormulaId.{FormulaId}
use Rattle.formula_store.specs.Nodes.{tree}
use Rattle.formula_store.specs.Tables.{TableOf}
use Rattle.linear_theory.specs.Answer.{truth_by}
use Rattle.linear_opt.specs.Truths.{HasTruth, IsThere, truth_in}

-- ---- truths together

pub or_left : (a x y : Bool) → a ≡ x → a ≡ true → a ≡ (x || y)
or_left a x y e t = t ∙ sym (ap (λ z. z || y) (sym e ∙ t))

pub or_right : (a x y b : Bool) → a ≡ x → a ≡ false → b ≡ y → b ≡ (x || y)
or_right a x y b e f g = g ∙ sym (ap (λ z. z || y) (sym e ∙ f))

pub equal : (a b x y : Bool) → a ≡ x → b ≡ y → beq a b ≡ ((x && y) || (not x && not y))
equal a b x y e f = (λ i. beq (e i) (f i)) ∙ go x y
  where
    go : (x y : Bool) → beq x y ≡ ((x && y) || (not x && not y))
    go true true = refl
    go true false = refl
    go false true = refl
    go false false = refl

module _ (told : Atom → Bool) (nodes : List (Shape FormulaId)) (table : TableOf Bool) where
  -- ---- what the table has

  pub there : (id : FormulaId) → HasTruth told nodes table id → IsThere table id
  there id h = subst (λ o. IsSome o) (sym h.there) refl

  pub all_there : (ids : List FormulaId) → AllByRecursion (HasTruth told nodes table) ids → AllByRecursion (IsThere table) ids
  all_there [] h = tt
  all_there (id ∷ ids) h = (there id h.0, all_there ids h.1)

  pub read : (id : FormulaId) → HasTruth told nodes table id → truth_in table id ≡ truth_by told (tree nodes id)
  read id h = ap (λ o. unwrap_or o false) h.there ∙ h.holds

  pub all_read : (ids : List FormulaId) → AllByRecursion (HasTruth told nodes table) ids → AllByRecursion (λ id. truth_in table id ≡ truth_by told (tree nodes id)) ids
  all_read [] h = tt
  all_read (id ∷ ids) h = (read id h.0, all_read ids h.1)

  -- ---- the formula's shape is s

  module _ (id : FormulaId) (n s : Shape FormulaId) (is : n ≡ s) where
    pub arm : slice_get nodes id.number ≡ Some n → ((m : Shape FormulaId) → slice_get nodes id.number ≡ Some m → AllIds (HasTruth told nodes table) m) → AllIds (HasTruth told nodes table) s
    arm here known = known s (here ∙ ap Some is)

    pub arm_truth : tree nodes id ≡ tree_over (tree nodes) n → (b : Bool) → b ≡ truth_by told (tree_over (tree nodes) s) → b ≡ truth_by told (tree nodes id)
    arm_truth t b e = e ∙ ap (truth_by told) (sym (t ∙ ap (tree_over (tree nodes)) is))
