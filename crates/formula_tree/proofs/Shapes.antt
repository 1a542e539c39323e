-- The tree of a shape rests on the trees of its ids alone, and tells the shape where they tell the ids.
use Rattle.std.proofs.Common.{◌≡◌, List, [], ◌∷◌, refl, ap}
use Rattle.std.specs.Prelude.{map}
use Rattle.std.specs.List.{AllByRecursion}
use Rattle.logic_meaning.specs.Formula.{Not, And, Or, Impl, Repl, Equiv, Ex, All, also}
use Rattle.logic_meaning.specs.Tree.{Tree}
use Rattle.formula_tree.specs.declared.shape.Shape.{Shape}
use Rattle.formula_tree.specs.declared.shape.Shape.TheVariants as shape
use Rattle.formula_tree.specs.Trees.{members}
use Rattle.formula_tree.specs.Shapes.{tree_over, AllIds, ids_of, moved, IsProperShape}

module _ {Id : Type 0} where
  -- ids with the same trees, one after another
  pub same_members : (t u : Id → Tree) (ids : List Id) → AllByRecursion (λ id. t id ≡ u id) ids → members (map t ids) ≡ members (map u ids)
  same_members t u [] h = refl
  same_members t u (id ∷ ids) h = λ i. also (h.0 i) (same_members t u ids h.1 i)

  -- a shape whose ids have the same trees has the same tree
  pub over_same : (t u : Id → Tree) (s : Shape Id) → AllIds (λ id. t id ≡ u id) s → tree_over t s ≡ tree_over u s
  over_same t u shape.True h = refl
  over_same t u shape.False h = refl
  over_same t u (shape.One a) h = refl
  over_same t u (shape.And ids) h = ap And (same_members t u ids h)
  over_same t u (shape.Or ids) h = ap Or (same_members t u ids h)
  over_same t u (shape.Not f) h = ap Not h
  over_same t u (shape.Impl f g) h = λ i. Impl (h.0 i) (h.1 i)
  over_same t u (shape.Repl f g) h = λ i. Repl (h.0 i) (h.1 i)
  over_same t u (shape.Equiv f g) h = λ i. Equiv (h.0 i) (h.1 i)
  over_same t u (shape.Ex x f) h = ap (Ex x.number) h
  over_same t u (shape.All x f) h = ap (All x.number) h

  -- what each id has, each id of a list has
  pub all_map : (P Q : Id → Type 0) → ((id : Id) → P id → Q id) → (ids : List Id) → AllByRecursion P ids → AllByRecursion Q ids
  all_map P Q k [] h = tt
  all_map P Q k (id ∷ ids) h = (k id h.0, all_map P Q k ids h.1)

  pub all_ids_map : (P Q : Id → Type 0) → ((id : Id) → P id → Q id) → (s : Shape Id) → AllIds P s → AllIds Q s
  all_ids_map P Q k shape.True h = tt
  all_ids_map P Q k shape.False h = tt
  all_ids_map P Q k (shape.One a) h = tt
  all_ids_map P Q k (shape.And ids) h = all_map P Q k ids h
  all_ids_map P Q k (shape.Or ids) h = all_map P Q k ids h
  all_ids_map P Q k (shape.Not f) h = k f h
  all_ids_map P Q k (shape.Impl f g) h = (k f h.0, k g h.1)
  all_ids_map P Q k (shape.Repl f g) h = (k f h.0, k g h.1)
  all_ids_map P Q k (shape.Equiv f g) h = (k f h.0, k g h.1)
  all_ids_map P Q k (shape.Ex x f) h = k f h
  all_ids_map P Q k (shape.All x f) h = k f h

module _ {Id : Type 0} (P : Id → Type 0) where
  -- what each id of a shape has, the list of its ids has
  pub all_listed : (s : Shape Id) → AllIds P s → AllByRecursion P (ids_of s)
  all_listed shape.True h = tt
  all_listed shape.False h = tt
  all_listed (shape.One a) h = tt
  all_listed (shape.And ids) h = h
  all_listed (shape.Or ids) h = h
  all_listed (shape.Not f) h = (h, tt)
  all_listed (shape.Impl f g) h = (h.0, (h.1, tt))
  all_listed (shape.Repl f g) h = (h.0, (h.1, tt))
  all_listed (shape.Equiv f g) h = (h.0, (h.1, tt))
  all_listed (shape.Ex x f) h = (h, tt)
  all_listed (shape.All x f) h = (h, tt)

  -- and the other way round
  pub listed_all : (s : Shape Id) → AllByRecursion P (ids_of s) → AllIds P s
  listed_all shape.True h = tt
  listed_all shape.False h = tt
  listed_all (shape.One a) h = tt
  listed_all (shape.And ids) h = h
  listed_all (shape.Or ids) h = h
  listed_all (shape.Not f) h = h.0
  listed_all (shape.Impl f g) h = (h.0, h.1.0)
  listed_all (shape.Repl f g) h = (h.0, h.1.0)
  listed_all (shape.Equiv f g) h = (h.0, h.1.0)
  listed_all (shape.Ex x f) h = h.0
  listed_all (shape.All x f) h = h.0

module _ {Id Id2 : Type 0} (to : Id → Id2) where
  members_moved : (t : Id2 → Tree) (ids : List Id) → members (map t (map to ids)) ≡ members (map (λ id. t (to id)) ids)
  members_moved t [] = refl
  members_moved t (id ∷ ids) = ap (also (t (to id))) (members_moved t ids)

  -- the tree of a moved shape
  pub over_moved : (t : Id2 → Tree) (s : Shape Id) → tree_over t (moved to s) ≡ tree_over (λ id. t (to id)) s
  over_moved t shape.True = refl
  over_moved t shape.False = refl
  over_moved t (shape.One a) = refl
  over_moved t (shape.And ids) = ap And (members_moved t ids)
  over_moved t (shape.Or ids) = ap Or (members_moved t ids)
  over_moved t (shape.Not f) = refl
  over_moved t (shape.Impl f g) = refl
  over_moved t (shape.Repl f g) = refl
  over_moved t (shape.Equiv f g) = refl
  over_moved t (shape.Ex x f) = refl
  over_moved t (shape.All x f) = refl

  all_moved : (P : Id2 → Type 0) (ids : List Id) → AllByRecursion (λ id. P (to id)) ids → AllByRecursion P (map to ids)
  all_moved P [] h = tt
  all_moved P (id ∷ ids) h = (h.0, all_moved P ids h.1)

  -- the ids of a moved shape
  pub ids_moved : (P : Id2 → Type 0) (s : Shape Id) → AllIds (λ id. P (to id)) s → AllIds P (moved to s)
  ids_moved P shape.True h = tt
  ids_moved P shape.False h = tt
  ids_moved P (shape.One a) h = tt
  ids_moved P (shape.And ids) h = all_moved P ids h
  ids_moved P (shape.Or ids) h = all_moved P ids h
  ids_moved P (shape.Not f) h = h
  ids_moved P (shape.Impl f g) h = h
  ids_moved P (shape.Repl f g) h = h
  ids_moved P (shape.Equiv f g) h = h
  ids_moved P (shape.Ex x f) h = h
  ids_moved P (shape.All x f) h = h

  -- its atom is that of the shape
  pub proper_moved : (s : Shape Id) → IsProperShape s → IsProperShape (moved to s)
  proper_moved shape.True h = tt
  proper_moved shape.False h = tt
  proper_moved (shape.One a) h = h
  proper_moved (shape.And ids) h = tt
  proper_moved (shape.Or ids) h = tt
  proper_moved (shape.Not f) h = tt
  proper_moved (shape.Impl f g) h = tt
  proper_moved (shape.Repl f g) h = tt
  proper_moved (shape.Equiv f g) h = tt
  proper_moved (shape.Ex x f) h = tt
  proper_moved (shape.All x f) h = tt
