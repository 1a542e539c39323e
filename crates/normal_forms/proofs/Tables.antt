-- A table of sizes gets one more.
use Rattle.std.proofs.Common.{◌≡◌, Bool, true, false, cond, List, [], ◌∷◌, map, Some, Option, IsSome, refl, sym, ap, ◌∙◌, subst}
use Rattle.std.specs.HashMap.{get}
use Rattle.std.specs.List.{AllByRecursion}
use Rattle.std.specs.Cmp.{unsigned_Decides}
use Rattle.logic_meaning.specs.declared.junction.Junction.{Junction}
use Rattle.formula_tree.specs.declared.shape.Shape.{Shape}
use Rattle.formula_tree.specs.Makers.{Keeps}
use Rattle.formula_store.specs.declared.id.FormulaId.{FormulaId}
use Rattle.formula_store.specs.Nodes.{tree, IsId}
use Rattle.formula_store.proofs.Ordered.{same_id as same_number}
use Rattle.shape_theory.specs.Counts.{sizes, nothing_sizes, more_sizes}
use Rattle.normal_forms.specs.declared.sizes.Sizes.{Sizes}
use Rattle.normal_forms.specs.Atoms.{same_id}
use Rattle.normal_forms.specs.Sizes.{capped, all_joined, Table, IsThere, or_nothing, sizes_at, IsTold}
use Rattle.formula_tree.specs.Trees.{members}
use Rattle.normal_forms.proofs.Capped.{members_capped}

module _ (j : Junction) (nodes : List (Shape FormulaId)) (table table2 : Table) (id : FormulaId) (x : Sizes) (put : (q : FormulaId) → get same_id table2 q ≡ cond (same_id id q) (Some x) (get same_id table q)) where
  pub there_now : IsThere table2 id
  there_now = subst (λ (o : Option Sizes). IsSome o) (sym (put id ∙ ap (λ t. cond t (Some x) (get same_id table id)) ((unsigned_Decides id.number id.number).1 refl))) refl

  pub there_more : (q : FormulaId) → IsThere table q → IsThere table2 q
  there_more q h = split (same_id id q) refl
    where
      split : (b : Bool) → same_id id q ≡ b → IsThere table2 q
      split true e = subst (λ (o : Option Sizes). IsSome o) (sym (put q ∙ ap (λ t. cond t (Some x) (get same_id table q)) e)) refl
      split false e = subst (λ (o : Option Sizes). IsSome o) (sym (put q ∙ ap (λ t. cond t (Some x) (get same_id table q)) e)) h

  pub told_more : IsTold j nodes table → IsId nodes id → x ≡ capped (sizes j (tree nodes id)) → IsTold j nodes table2
  told_more h is e = record { ids = λ q t. ids_split q (same_id id q) refl t; told = λ q t. told_split q (same_id id q) refl t }
    where
      same : (q : FormulaId) → same_id id q ≡ true → id ≡ q
      same q e = same_number id q ((unsigned_Decides id.number q.number).0 e)

      ids_split : (q : FormulaId) (b : Bool) → same_id id q ≡ b → IsThere table2 q → IsId nodes q
      ids_split q true e t = subst (IsId nodes) (same q e) is
      ids_split q false e t = h.ids q (subst (λ (o : Option Sizes). IsSome o) (put q ∙ ap (λ t. cond t (Some x) (get same_id table q)) e) t)

      told_split : (q : FormulaId) (b : Bool) → same_id id q ≡ b → IsThere table2 q → sizes_at table2 q ≡ capped (sizes j (tree nodes q))
      told_split q true f t =
          ap or_nothing (put q ∙ ap (λ t. cond t (Some x) (get same_id table q)) f) ∙ e ∙ ap (λ (i : FormulaId). capped (sizes j (tree nodes i))) (same q f)
      told_split q false f t =
          ap or_nothing (put q ∙ ap (λ t. cond t (Some x) (get same_id table q)) f) ∙ h.told q (subst (λ (o : Option Sizes). IsSome o) (put q ∙ ap (λ t. cond t (Some x) (get same_id table q)) f) t)

-- what is there is told
pub members_told : (j : Junction) (nodes : List (Shape FormulaId)) (table : Table) → IsTold j nodes table → (ids : List FormulaId) → AllByRecursion (IsThere table) ids → AllByRecursion (λ id. sizes_at table id ≡ capped (sizes j (tree nodes id))) ids
members_told j nodes table h [] t = tt
members_told j nodes table h (id ∷ ids) t = (h.told id t.0, members_told j nodes table h ids t.1)

-- a table stays right as formulas are added
pub told_stays : (j : Junction) (old new : List (Shape FormulaId)) (table : Table) → Keeps (IsId old) (tree old) (IsId new) (tree new) → IsTold j old table → IsTold j new table
told_stays j old new table k h = record { ids = λ id t. k.is id (h.ids id t); told = λ id t. h.told id t ∙ ap (λ f. capped (sizes j f)) (sym (k.same id (h.ids id t))) }

-- a table that has nothing
pub none_told : (j : Junction) (nodes : List (Shape FormulaId)) (table : Table) → ((id : FormulaId) → ¬ (IsThere table id)) → IsTold j nodes table
none_told j nodes table h = record { ids = λ id t. absurd (h id t); told = λ id t. absurd (h id t) }

-- the sizes of the members of a list make those of the list
pub list_told : (j : Junction) (nodes : List (Shape FormulaId)) (table : Table) → IsTold j nodes table → (ids : List FormulaId) → AllByRecursion (IsThere table) ids → (b d : Bool) → d ≡ b
    → all_joined d (capped (nothing_sizes d)) (map (sizes_at table) ids) ≡ capped (more_sizes j b (nothing_sizes b) (members (map (tree nodes) ids)))
list_told j nodes table h ids t b d e =
    ap (λ x. all_joined x (capped (nothing_sizes x)) (map (sizes_at table) ids)) e
    ∙ members_capped j b (tree nodes) (sizes_at table) (nothing_sizes b) ids (members_told j nodes table h ids t)
