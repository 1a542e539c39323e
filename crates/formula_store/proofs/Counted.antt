-- The list of distinct subformulas has as many ids as there are distinct subformulas.
use Rattle.std.proofs.Common.{◌≡◌, ℕ, zero, suc, ◌<◌, ◌≤◌, ◌⊎◌, inl, inr, ⊎_elim, true, List, [], ◌∷◌, ◌++◌, Some, slice_get, length, map, refl, ap, sym, ◌∙◌, subst, arith, nat_eq, get_or}
use Rattle.std.proofs.lemmas.Option.{slice_get-get_or}
use Rattle.std.proofs.lemmas.List.{length-map}
use Rattle.std.specs.List.{AllByRecursion}
use Rattle.std.specs.Cmp.{unsigned_Decides}
use Rattle.logic_meaning.specs.Formula.{Yes, No, One, Not, And, Or, Impl, Repl, Equiv, Ex, All}
use Rattle.logic_meaning.specs.Some.{SomeOf, Among}
use Rattle.formula_laws.specs.StandsOnce.{StandsOnce}
use Rattle.logic_meaning.specs.Same.{same_atom}
use Rattle.logic_meaning.specs.Sizes.{subtrees, all_subtrees, same_formula, distinct_subtrees, distinct_count}
use Rattle.logic_meaning.specs.Tree.{Tree}
use Rattle.formula_laws.proofs.Listed.{among_left, among_right, among_append, distinct_among, among_distinct, distinct_once}
use Rattle.formula_laws.proofs.Same.{atom_same, atom_alike}
use Rattle.formula_laws.proofs.Sizes.{formula_same, formula_alike}
use Rattle.formula_tree.specs.declared.shape.Shape.{Shape}
use Rattle.formula_tree.specs.declared.shape.Shape.TheVariants as shape
use Rattle.formula_tree.specs.Trees.{members}
use Rattle.formula_tree.specs.Shapes.{tree_over, ids_of}
use Rattle.formula_tree.proofs.Shapes.{all_listed}
use Rattle.formula_store.specs.declared.id.FormulaId.{FormulaId}
use Rattle.formula_store.specs.Nodes.{tree, IsId, AreNodes}
use Rattle.formula_store.specs.Order.{Within, WithinSome, itself, inside, Rises, RisesFrom, IsOrder}
use Rattle.formula_store.proofs.Trees.{node_tree}
use Rattle.formula_store.proofs.Same.{same_tree}
use Rattle.formula_store.proofs.Ordered.{some_has}

-- ---- lists of the same elements, each once

module _ {X : Type 0} where
  record Split (ys : List X) (x : X) : Type 0 where
    before : List X
    after : List X
    whole : ys ≡ before ++ x ∷ after

  split : (ys : List X) (x : X) → Among ys x → Split ys x
  split [] x h = absurd h
  split (y ∷ ys) x (inl e) = record { before = []; after = ys; whole = ap (λ z. z ∷ ys) e }
  split (y ∷ ys) x (inr h) = let r = split ys x h in record { before = y ∷ r.before; after = r.after; whole = ap (λ l. y ∷ l) r.whole }

  length-split : (l r : List X) (x : X) → length (l ++ x ∷ r) ≡ suc (length (l ++ r))
  length-split [] r x = refl
  length-split (y ∷ l) r x = ap suc (length-split l r x)

  turned : (zs : List X) (z : X) → Among zs z → SomeOf (λ y. z ≡ y) zs
  turned [] z h = absurd h
  turned (a ∷ zs) z (inl e) = inl (sym e)
  turned (a ∷ zs) z (inr h) = inr (turned zs z h)

  -- what stands in a list behind x, with none the same as x, stands in what is left of another
  left_over : (l r : List X) (x s : X) → ¬ (x ≡ s) → Among (l ++ x ∷ r) s → Among (l ++ r) s
  left_over [] r x s n (inl e) = absurd (n e)
  left_over [] r x s n (inr h) = h
  left_over (y ∷ l) r x s n (inl e) = inl e
  left_over (y ∷ l) r x s n (inr h) = inr (left_over l r x s n h)

  -- a list without repeats is no longer than one that has its elements
  pub fits : (xs ys : List X) → StandsOnce xs → ((s : X) → Among xs s → Among ys s) → length xs ≤ length ys
  fits [] ys h k = omega arith
  fits (x ∷ xs) ys h k =
      let r = split ys x (k x (inl refl)) in
      let rest = fits xs (r.before ++ r.after) h.1
      (λ s m. left_over r.before r.after x s (λ e. h.0 (turned xs x (subst (λ z. Among xs z) (sym e) m))) (subst (λ l. Among l s) r.whole (k s (inr m)))) in
      let n = length-split r.before r.after x in
      let w : length ys ≡ length (r.before ++ x ∷ r.after) = ap length r.whole in
      omega arith

-- ---- the subtrees of a shape's tree

module _ {Id : Type 0} (t : Id → Tree) where
  list_subtrees : (ids : List Id) (f : Tree) → Among (all_subtrees (members (map t ids))) f → SomeOf (λ id. Among (subtrees (t id)) f) ids
  list_subtrees [] f h = absurd h
  list_subtrees (a ∷ ids) f h = ⊎_elim (λ p. inl p) (λ p. inr (list_subtrees ids f p)) (among_append (subtrees (t a)) (all_subtrees (members (map t ids))) f h)

  pair_subtrees : (a b : Id) (f : Tree) → Among (subtrees (t a) ++ subtrees (t b)) f → SomeOf (λ id. Among (subtrees (t id)) f) (a ∷ b ∷ [])
  pair_subtrees a b f h = ⊎_elim (λ p. inl p) (λ p. inr (inl p)) (among_append (subtrees (t a)) (subtrees (t b)) f h)

  -- a subtree is the tree itself or stands in a member's tree
  over_subtrees : (s : Shape Id) (f : Tree) → Among (subtrees (tree_over t s)) f → (tree_over t s ≡ f) ⊎ SomeOf (λ id. Among (subtrees (t id)) f) (ids_of s)
  over_subtrees shape.True f h = h
  over_subtrees shape.False f h = h
  over_subtrees (shape.One a) f h = h
  over_subtrees (shape.And ids) f (inl e) = inl e
  over_subtrees (shape.And ids) f (inr h) = inr (list_subtrees ids f h)
  over_subtrees (shape.Or ids) f (inl e) = inl e
  over_subtrees (shape.Or ids) f (inr h) = inr (list_subtrees ids f h)
  over_subtrees (shape.Not a) f (inl e) = inl e
  over_subtrees (shape.Not a) f (inr h) = inr (inl h)
  over_subtrees (shape.Impl a b) f (inl e) = inl e
  over_subtrees (shape.Impl a b) f (inr h) = inr (pair_subtrees a b f h)
  over_subtrees (shape.Repl a b) f (inl e) = inl e
  over_subtrees (shape.Repl a b) f (inr h) = inr (pair_subtrees a b f h)
  over_subtrees (shape.Equiv a b) f (inl e) = inl e
  over_subtrees (shape.Equiv a b) f (inr h) = inr (pair_subtrees a b f h)
  over_subtrees (shape.Ex x a) f (inl e) = inl e
  over_subtrees (shape.Ex x a) f (inr h) = inr (inl h)
  over_subtrees (shape.All x a) f (inl e) = inl e
  over_subtrees (shape.All x a) f (inr h) = inr (inl h)

  subtrees_list : (ids : List Id) (f : Tree) → SomeOf (λ id. Among (subtrees (t id)) f) ids → Among (all_subtrees (members (map t ids))) f
  subtrees_list [] f h = absurd h
  subtrees_list (a ∷ ids) f (inl p) = among_left (subtrees (t a)) (all_subtrees (members (map t ids))) f p
  subtrees_list (a ∷ ids) f (inr p) = among_right (subtrees (t a)) (all_subtrees (members (map t ids))) f (subtrees_list ids f p)

  subtrees_pair : (a b : Id) (f : Tree) → SomeOf (λ id. Among (subtrees (t id)) f) (a ∷ b ∷ []) → Among (subtrees (t a) ++ subtrees (t b)) f
  subtrees_pair a b f (inl p) = among_left (subtrees (t a)) (subtrees (t b)) f p
  subtrees_pair a b f (inr p) = among_right (subtrees (t a)) (subtrees (t b)) f (⊎_elim (λ q. q) (λ q. absurd q) p)

  -- what stands in a member's tree is a subtree
  pub subtrees_over : (s : Shape Id) (f : Tree) → SomeOf (λ id. Among (subtrees (t id)) f) (ids_of s) → Among (subtrees (tree_over t s)) f
  subtrees_over shape.True f h = absurd h
  subtrees_over shape.False f h = absurd h
  subtrees_over (shape.One a) f h = absurd h
  subtrees_over (shape.And ids) f h = inr (subtrees_list ids f h)
  subtrees_over (shape.Or ids) f h = inr (subtrees_list ids f h)
  subtrees_over (shape.Not a) f h = inr (⊎_elim (λ q. q) (λ q. absurd q) h)
  subtrees_over (shape.Impl a b) f h = inr (subtrees_pair a b f h)
  subtrees_over (shape.Repl a b) f h = inr (subtrees_pair a b f h)
  subtrees_over (shape.Equiv a b) f h = inr (subtrees_pair a b f h)
  subtrees_over (shape.Ex x a) f h = inr (⊎_elim (λ q. q) (λ q. absurd q) h)
  subtrees_over (shape.All x a) f h = inr (⊎_elim (λ q. q) (λ q. absurd q) h)

-- each tree is a subtree of itself
own : (f : Tree) → Among (subtrees f) f
own Yes = inl refl
own No = inl refl
own (One a) = inl refl
own (Not f) = inl refl
own (And fs) = inl refl
own (Or fs) = inl refl
own (Impl f g) = inl refl
own (Repl f g) = inl refl
own (Equiv f g) = inl refl
own (Ex x f) = inl refl
own (All x f) = inl refl

module _ (nodes : List (Shape FormulaId)) (are : AreNodes nodes) where
  -- what stands in a node has a subtree of its tree
  pub within_subtree : (a b : FormulaId) → Within nodes a b → Among (subtrees (tree nodes a)) (tree nodes b)
  within_subtree a b itself = own (tree nodes a)
  within_subtree a b (inside {m = m} n e s w) =
      subst (λ f. Among (subtrees f) (tree nodes b)) (sym (node_tree nodes a.number n are e))
      (subtrees_over (tree nodes) n (tree nodes b) (member_some (ids_of n) m s (within_subtree m b w)))
    where
      member_some : (ids : List FormulaId) (m : FormulaId) → SomeOf (λ i. i ≡ m) ids → Among (subtrees (tree nodes m)) (tree nodes b) → SomeOf (λ id. Among (subtrees (tree nodes id)) (tree nodes b)) ids
      member_some [] m h k = absurd h
      member_some (i ∷ ids) m (inl p) k = inl (subst (λ j. Among (subtrees (tree nodes j)) (tree nodes b)) (sym p) k)
      member_some (i ∷ ids) m (inr p) k = inr (member_some ids m p k)

  pub record Found (a : FormulaId) (f : Tree) : Type 0 where
    pub id : FormulaId
    pub stands : Within nodes a id
    pub same : tree nodes id ≡ f

  subtree_below : (bound : ℕ) (a : FormulaId) → a.number < bound → IsId nodes a → (f : Tree) → Among (subtrees (tree nodes a)) f → Found a f
  subtree_below zero a l h f m = absurd (omega arith)
  subtree_below (suc bound) a l h f m =
      let n = get_or nodes a.number shape.True in
      let there : slice_get nodes a.number ≡ Some n = slice_get-get_or nodes a.number shape.True h.below in
      let t : tree nodes a ≡ tree_over (tree nodes) n = node_tree nodes a.number n are there in
      ⊎_elim (λ (p : tree_over (tree nodes) n ≡ f). record { id = a; stands = itself; same = t ∙ p })
      (λ p.
      let r = some_has (λ id. Among (subtrees (tree nodes id)) f) (λ (id : FormulaId). id.number < a.number) (ids_of n) p (all_listed (λ (id : FormulaId). id.number < a.number) n (are.below a.number n there)) in
      let q = subtree_below bound r.0 (omega (arith, r.2)) (record { below = omega (arith, r.2); are = are }) f r.1 in
      record { id = q.id; stands = inside n there r.3 q.stands; same = q.same })
      (over_subtrees (tree nodes) n f (subst (λ g. Among (subtrees g) f) t m))

  pub subtree_found : (a : FormulaId) → IsId nodes a → (f : Tree) → Among (subtrees (tree nodes a)) f → Found a f
  subtree_found a h f m = subtree_below (suc a.number) a (omega arith) h f m

  map_among : (ids : List FormulaId) (f : Tree) → Among (map (tree nodes) ids) f → (x : FormulaId) × Among ids x × (tree nodes x ≡ f)
  map_among [] f h = absurd h
  map_among (i ∷ ids) f (inl e) = (i, inl refl, e)
  map_among (i ∷ ids) f (inr h) = let r = map_among ids f h in (r.0, inr r.1, r.2)

  among_map : (ids : List FormulaId) (x : FormulaId) → Among ids x → Among (map (tree nodes) ids) (tree nodes x)
  among_map [] x h = absurd h
  among_map (i ∷ ids) x (inl e) = inl (ap (tree nodes) e)
  among_map (i ∷ ids) x (inr h) = inr (among_map ids x h)

  -- ids whose numbers rise have different trees
  above : (a : ℕ) (ids : List FormulaId) (x : FormulaId) → RisesFrom a ids → Among ids x → a < x.number
  above a [] x h m = absurd m
  above a (i ∷ ids) x h (inl e) = subst (λ (y : FormulaId). a < y.number) e h.0
  above a (i ∷ ids) x h (inr m) = let k = above i.number ids x h.1 m in let l = h.0 in omega arith

  not_again : (i : FormulaId) (ids : List FormulaId) → IsId nodes i → ((x : FormulaId) → Among ids x → IsId nodes x) → RisesFrom i.number ids → ¬ (SomeOf (λ f. tree nodes i ≡ f) (map (tree nodes) ids))
  not_again i ids h all r s =
      let m = map_among ids (tree nodes i) (backwards (map (tree nodes) ids) s) in
      let same : m.0 ≡ i = same_tree nodes m.0 i (all m.0 m.1) h m.2 in
      let k : i.number < m.0.number = above i.number ids m.0 r m.1 in
      omega (arith, ap (λ (y : FormulaId). y.number) same)
    where
      backwards : (fs : List Tree) → SomeOf (λ f. tree nodes i ≡ f) fs → Among fs (tree nodes i)
      backwards [] h = absurd h
      backwards (f ∷ fs) (inl e) = inl (sym e)
      backwards (f ∷ fs) (inr h) = inr (backwards fs h)

  trees_once_from : (a : ℕ) (ids : List FormulaId) → RisesFrom a ids → ((x : FormulaId) → Among ids x → IsId nodes x) → StandsOnce (map (tree nodes) ids)
  trees_once_from a [] r all = tt
  trees_once_from a (i ∷ ids) r all = (not_again i ids (all i (inl refl)) (λ x m. all x (inr m)) r.1, trees_once_from i.number ids r.1 (λ x m. all x (inr m)))

  trees_once : (ids : List FormulaId) → Rises ids → ((x : FormulaId) → Among ids x → IsId nodes x) → StandsOnce (map (tree nodes) ids)
  trees_once [] r all = tt
  trees_once (i ∷ ids) r all = (not_again i ids (all i (inl refl)) (λ x m. all x (inr m)) r, trees_once_from i.number ids r (λ x m. all x (inr m)))

  pub within_id : (a b : FormulaId) → IsId nodes a → Within nodes a b → IsId nodes b
  within_id a b h itself = h
  within_id a b h (inside {m = m} n e s w) =
      let r = some_has (λ i. i ≡ m) (λ (id : FormulaId). id.number < a.number) (ids_of n) s (all_listed (λ (id : FormulaId). id.number < a.number) n (are.below a.number n e)) in
      within_id m b (record { below = let k : m.number < a.number = subst (λ (y : FormulaId). y.number < a.number) r.1 r.2 in omega arith; are = are }) w

  pub each_within : (root : FormulaId) (ids : List FormulaId) → AllByRecursion (WithinSome nodes (root ∷ [])) ids → (x : FormulaId) → Among ids x → Within nodes root x
  each_within root [] h x m = absurd m
  each_within root (i ∷ ids) h x (inl e) = subst (λ y. Within nodes root y) e (⊎_elim (λ w. w) (λ w. absurd w) h.0)
  each_within root (i ∷ ids) h x (inr m) = each_within root ids h.1 x m

  -- as many ids as distinct subformulas
  pub counted : (root : FormulaId) (ids : List FormulaId) → IsId nodes root → IsOrder nodes (root ∷ []) ids → distinct_count same_atom nat_eq (tree nodes root) ≡ length ids
  counted root ids h o =
      let same = same_formula same_atom nat_eq in
      let numbers_are : (x y : ℕ) → nat_eq x y ≡ true → x ≡ y = λ x y. (unsigned_Decides x y).0 in
      let numbers_alike : (x : ℕ) → nat_eq x x ≡ true = λ x. (unsigned_Decides x x).1 refl in
      let sound = formula_same same_atom nat_eq atom_same numbers_are in
      let alike = formula_alike same_atom nat_eq atom_alike numbers_alike in
      let f = tree nodes root in
      let once = trees_once ids o.rises (λ x m. within_id root x h (each_within root ids o.only x m)) in
      let up : length (map (tree nodes) ids) ≤ length (distinct_subtrees same_atom nat_eq f) =
      fits (map (tree nodes) ids) (distinct_subtrees same_atom nat_eq f) once
      (λ s m. let r = map_among ids s m in
      among_distinct same sound (subtrees f) s (subst (λ g. Among (subtrees f) g) r.2 (within_subtree root r.0 (each_within root ids o.only r.0 r.1)))) in
      let down : length (distinct_subtrees same_atom nat_eq f) ≤ length (map (tree nodes) ids) =
      fits (distinct_subtrees same_atom nat_eq f) (map (tree nodes) ids) (distinct_once same alike (subtrees f))
      (λ s m. let r = subtree_found root h s (distinct_among same (subtrees f) s m) in subst (λ g. Among (map (tree nodes) ids) g) r.same (among_map ids r.id (o.all r.id (inl r.stands)))) in
      let n = length-map ids (tree nodes) in
      omega arith
