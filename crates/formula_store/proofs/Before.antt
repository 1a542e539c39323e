-- In the list of the nodes of a formula the members of each stand before it.
use Rattle.std.proofs.Common.{◌≡◌, ℕ, zero, suc, ◌<◌, ◌≤◌, inl, inr, List, [], ◌∷◌, Some, slice_get, length, get_or, take, refl, ap, sym, subst, arith}
use Rattle.std.specs.List.{AllByRecursion}
use Rattle.logic_meaning.specs.Some.{SomeOf, Among}
use Rattle.formula_laws.specs.StandsOnce.{StandsOnce}
use Rattle.formula_tree.specs.declared.shape.Shape.{Shape}
use Rattle.formula_tree.specs.Shapes.{ids_of}
use Rattle.formula_tree.proofs.Shapes.{all_listed}
use Rattle.formula_store.specs.declared.id.FormulaId.{FormulaId}
use Rattle.formula_store.specs.Nodes.{AreNodes, IsId}
use Rattle.formula_store.specs.Order.{WithinSome, Rises, RisesFrom, IsOrder}
use Rattle.formula_store.proofs.Ordered.{some_then}
use Rattle.formula_store.proofs.Marked.{all_at}
pub use Rattle.formula_store.proofs.Marked.{among_all}
use Rattle.formula_store.proofs.Counted.{within_id, fits}

-- numbers from the one at a place on are at least it
pub at_least_from : (a : ℕ) (ids : List FormulaId) (x : FormulaId) → RisesFrom a ids → Among ids x → a < x.number
at_least_from a [] x r m = absurd m
at_least_from a (i ∷ ids) x r (inl e) = subst (λ (y : FormulaId). a < y.number) e r.0
at_least_from a (i ∷ ids) x r (inr m) = let k = at_least_from i.number ids x r.1 m in let l = r.0 in omega arith

earlier_from : (a : ℕ) (ids : List FormulaId) (i : ℕ) (d x : FormulaId) → RisesFrom a ids → i < length ids → Among ids x → x.number < (get_or ids i d).number → Among (take i ids) x
earlier_from a [] i d x r h m l = absurd m
earlier_from a (b ∷ ids) zero d x r h (inl e) l = absurd (let k : x.number ≡ b.number = ap (λ (y : FormulaId). y.number) (sym e) in omega arith)
earlier_from a (b ∷ ids) zero d x r h (inr m) l = absurd (let k = at_least_from b.number ids x r.1 m in omega arith)
earlier_from a (b ∷ ids) (suc i) d x r h (inl e) l = inl e
earlier_from a (b ∷ ids) (suc i) d x r h (inr m) l = inr (earlier_from b.number ids i d x r.1 (omega arith) m l)

-- an id with a smaller number stands before
pub earlier : (ids : List FormulaId) (i : ℕ) (d x : FormulaId) → Rises ids → i < length ids → Among ids x → x.number < (get_or ids i d).number → Among (take i ids) x
earlier [] i d x r h m l = absurd m
earlier (b ∷ ids) zero d x r h (inl e) l = absurd (let k : x.number ≡ b.number = ap (λ (y : FormulaId). y.number) (sym e) in omega arith)
earlier (b ∷ ids) zero d x r h (inr m) l = absurd (let k = at_least_from b.number ids x r m in omega arith)
earlier (b ∷ ids) (suc i) d x r h (inl e) l = inl e
earlier (b ∷ ids) (suc i) d x r h (inr m) l = inr (earlier_from b.number ids i d x r (omega arith) m l)

module _ (nodes : List (Shape FormulaId)) (are : AreNodes nodes) (roots ids : List FormulaId) (o : IsOrder nodes roots ids) where
  -- each id of the list is one of the nodes
  pub each_id : AllByRecursion (IsId nodes) roots → (i : ℕ) (d : FormulaId) → i < length ids → IsId nodes (get_or ids i d)
  each_id r i d h = some_id roots (get_or ids i d) r (all_at (WithinSome nodes roots) ids i d h o.only)
    where
      some_id : (rs : List FormulaId) (x : FormulaId) → AllByRecursion (IsId nodes) rs → WithinSome nodes rs x → IsId nodes x
      some_id [] x h w = absurd w
      some_id (r ∷ rs) x h (inl w) = within_id nodes are r x h.0 w
      some_id (r ∷ rs) x h (inr w) = some_id rs x h.1 w

  module _ (i : ℕ) (d : FormulaId) (h : i < length ids) (n : Shape FormulaId) (here : slice_get nodes (get_or ids i d).number ≡ Some n) (P : FormulaId → Type 0) (done : AllByRecursion P (take i ids)) where
    members_done : (ms : List FormulaId) → ((m : FormulaId) → Among ms m → Among (ids_of n) m) → AllByRecursion (λ (m : FormulaId). m.number < (get_or ids i d).number) ms → AllByRecursion P ms
    members_done [] t b = tt
    members_done (m ∷ ms) t b =
        let stands = some_then nodes roots (get_or ids i d) m n (all_at (WithinSome nodes roots) ids i d h o.only) here (t m (inl refl)) in
        (among_all P (take i ids) m done (earlier ids i d m o.rises h (o.all m stands) b.0), members_done ms (λ k a. t k (inr a)) b.1)

    -- what holds of the ids before holds of the members
    pub members_before : AllByRecursion P (ids_of n)
    members_before = members_done (ids_of n) (λ m a. a) (all_listed (λ (m : FormulaId). m.number < (get_or ids i d).number) n (are.below (get_or ids i d).number n here))

turned : (zs : List FormulaId) (z : FormulaId) → SomeOf (λ y. z ≡ y) zs → Among zs z
turned [] z h = absurd h
turned (a ∷ zs) z (inl e) = inl (sym e)
turned (a ∷ zs) z (inr h) = inr (turned zs z h)

not_later : (b : FormulaId) (ids : List FormulaId) → RisesFrom b.number ids → ¬ (SomeOf (λ y. b ≡ y) ids)
not_later b ids r m = let k = at_least_from b.number ids b r (turned ids b m) in omega arith

-- ids whose numbers rise stand once
once_from : (a : ℕ) (ids : List FormulaId) → RisesFrom a ids → StandsOnce ids
once_from a [] r = tt
once_from a (b ∷ ids) r = (not_later b ids r.1, once_from b.number ids r.1)

once : (ids : List FormulaId) → Rises ids → StandsOnce ids
once [] r = tt
once (b ∷ ids) r = (not_later b ids r, once_from b.number ids r)

-- two lists of the nodes of the same formulas are equally long
pub orders_alike : (nodes : List (Shape FormulaId)) (roots xs ys : List FormulaId) → IsOrder nodes roots xs → IsOrder nodes roots ys → length xs ≤ length ys
orders_alike nodes roots xs ys o p = fits xs ys (once xs o.rises) (λ s m. p.all s (among_all (WithinSome nodes roots) xs s o.only m))
