-- A formula is in negation normal form where all that stands in it begins so.
use Rattle.std.proofs.Common.{◌≡◌, ℕ, zero, suc, ◌+◌, ◌<◌, ◌≤◌, true, true≢false, List, [], ◌∷◌, map, Some, slice_get, length, get_or, take, inl, ⊎_elim, sym, subst, arith}
use Rattle.std.specs.List.{AllByRecursion}
use Rattle.std.proofs.lemmas.List.{take_more, take_all}
use Rattle.std.proofs.lemmas.Option.{slice_get-get_or}
use Rattle.logic_meaning.specs.Plain.{IsNegationNormal, AreNegationNormal}
use Rattle.formula_tree.specs.declared.shape.Shape.{Shape}
use Rattle.formula_tree.specs.declared.shape.Shape.TheVariants as shape
use Rattle.formula_tree.specs.Trees.{members}
use Rattle.formula_tree.specs.Shapes.{tree_over, ids_of}
use Rattle.formula_store.specs.declared.id.FormulaId.{FormulaId}
use Rattle.formula_store.specs.Nodes.{tree, IsId, AreNodes}
use Rattle.formula_store.specs.Order.{IsOrder, WithinSome, itself}
use Rattle.formula_store.proofs.Before.{each_id, members_before, among_all}
use Rattle.formula_store.proofs.Marked.{all_at, all_joined, all_on}
use Rattle.formula_store.proofs.Counted.{within_id}
use Rattle.formula_store.proofs.Trees.{node_tree}
use Rattle.formula_store.specs.Normal.{is_normal_shape, BeginsNormal}

module _ (nodes : List (Shape FormulaId)) where
  -- what stands in a formula is a formula
  pub ids_are : AreNodes nodes → (root : FormulaId) → IsId nodes root → (ids : List FormulaId) → AllByRecursion (WithinSome nodes (root ∷ [])) ids → AllByRecursion (IsId nodes) ids
  ids_are are root is ids h = all_on (WithinSome nodes (root ∷ [])) (IsId nodes) (λ x w. ⊎_elim (λ v. within_id nodes are root x is v) (λ z. absurd z) w) ids h

  normal_list : (ids : List FormulaId) → AllByRecursion (λ id. IsNegationNormal (tree nodes id)) ids → AreNegationNormal (members (map (tree nodes) ids))
  normal_list [] h = tt
  normal_list (id ∷ ids) h = (h.0, normal_list ids h.1)

  normal_over : (n : Shape FormulaId) → is_normal_shape n ≡ true → AllByRecursion (λ id. IsNegationNormal (tree nodes id)) (ids_of n) → IsNegationNormal (tree_over (tree nodes) n)
  normal_over shape.True e h = tt
  normal_over shape.False e h = tt
  normal_over (shape.One a) e h = tt
  normal_over (shape.And ids) e h = normal_list ids h
  normal_over (shape.Or ids) e h = normal_list ids h
  normal_over (shape.Not f) e h = absurd (true≢false (sym e))
  normal_over (shape.Impl f g) e h = absurd (true≢false (sym e))
  normal_over (shape.Repl f g) e h = absurd (true≢false (sym e))
  normal_over (shape.Equiv f g) e h = absurd (true≢false (sym e))
  normal_over (shape.Ex x f) e h = h.0
  normal_over (shape.All x f) e h = h.0

  module _ (are : AreNodes nodes) (root : FormulaId) (is : IsId nodes root) (ids : List FormulaId) (o : IsOrder nodes (root ∷ []) ids) (begins : AllByRecursion (BeginsNormal nodes) ids) where
    next : (i : ℕ) (d : FormulaId) → i < length ids → AllByRecursion (λ id. IsNegationNormal (tree nodes id)) (take i ids) → IsNegationNormal (tree nodes (get_or ids i d))
    next i d l h =
        let x : FormulaId = get_or ids i d in
        let n : Shape FormulaId = get_or nodes x.number shape.True in
        let here : slice_get nodes x.number ≡ Some n = slice_get-get_or nodes x.number shape.True (each_id nodes are (root ∷ []) ids o (is, tt) i d l).below in
        subst IsNegationNormal (sym (node_tree nodes x.number n are here))
        (normal_over n (all_at (BeginsNormal nodes) ids i d l begins n here) (members_before nodes are (root ∷ []) ids o i d l n here (λ id. IsNegationNormal (tree nodes id)) h))

    first : (i : ℕ) → i ≤ length ids → AllByRecursion (λ id. IsNegationNormal (tree nodes id)) (take i ids)
    first zero l = tt
    first (suc i) l =
        let d : FormulaId = record { number = 0 } in
        let b : i < length ids = omega arith in
        let h = first i (omega arith) in
        let more : suc i ≡ i + 1 = omega arith in
        rw (more, take_more ids i d b) (all_joined (λ id. IsNegationNormal (tree nodes id)) (take i ids) (get_or ids i d ∷ []) h (next i d b h, tt))

    -- where each formula of the list begins so
    pub is_normal : IsNegationNormal (tree nodes root)
    is_normal =
        among_all (λ id. IsNegationNormal (tree nodes id)) ids root
        (subst (AllByRecursion (λ id. IsNegationNormal (tree nodes id))) (take_all (length ids) ids (omega arith)) (first (length ids) (omega arith))) (o.all root (inl itself))
