-- What is bound to names: ids, and the formulas that they stand for.
use Rattle.std.proofs.Common.{◌≡◌, ◌⊎◌, inl, inr, ℕ, zero, suc, ◌+◌, ◌<◌, ◌≤◌, List, [], ◌∷◌, ◌++◌, Bool, true, false, ◌||◌, Option, Some, None, sym, ap, ap₂, ◌∙◌, subst, refl, length, take, map, cond, get_or, add-one, arith}
use Rattle.std.proofs.lemmas.List.{length-map, map-append}
use Rattle.std.proofs.Math.Seq.{take-suc}
use Rattle.std.specs.Prelude.{option_map, slice_get, if◌then◌else◌}
use Rattle.std.specs.List.{IsDistinct, AllByRecursion, list_any}
use Rattle.std.specs.Map.{keys_of}
use Rattle.indexmap.proofs.MapLemmas.{insert_entry-absent, absent_from_lookup}
use Rattle.logic_meaning.specs.Tree.{Tree}
use Rattle.language_meaning.specs.Value.{same_name}
use Rattle.logic_meaning.specs.Bindings.{bound_to, bind, most_bound}
use Rattle.formula_tree.specs.Makers.{Keeps}
use Rattle.logic_meaning.specs.Names.{with_name}
use Rattle.resolved_formulas.proofs.PlaceLaws.{same_is, one_place, after_distinct}
use Rattle.formula_resolving.specs.BoundIds.{AreIds, trees_bound}
use Rattle.program_meaning.specs.Causes.{HasNoRoom}

-- ---- lists, place by place

pub take_next : {X Y : Type 0} (f : X → Y) (es : List X) (i : ℕ) (y : Y) → option_map f (slice_get es i) ≡ Some y → take (suc i) (map f es) ≡ take i (map f es) ++ y ∷ []
take_next f [] i y e = absurd (cc)
take_next f (x ∷ xs) zero y e = let p : f x ≡ y = cc in ap (λ z. z ∷ []) p
take_next f (x ∷ xs) (suc i) y e = ap (λ zs. f x ∷ zs) (take_next f xs i y e)

pub past_all : {X Y : Type 0} (f : X → Y) (es : List X) (i : ℕ) → option_map f (slice_get es i) ≡ None → length es ≤ i
past_all f [] i e = omega arith
past_all f (x ∷ xs) zero e = absurd (cc)
past_all f (x ∷ xs) (suc i) e = let k = past_all f xs i e in omega arith

-- ---- ids and trees

module _ {I : Type 0} (t : I → Tree) where
  pub trees_find : (es : List (List ℕ × I)) (x : List ℕ) → bound_to (trees_bound t es) x ≡ option_map t (bound_to es x)
  trees_find [] x = refl
  trees_find (e ∷ es) x = go (same_name x e.0) (trees_find es x)
    where
      go : (b : Bool) → bound_to (trees_bound t es) x ≡ option_map t (bound_to es x) → cond b (Some (t e.1)) (bound_to (trees_bound t es) x) ≡ option_map t (cond b (Some e.1) (bound_to es x))
      go true h = refl
      go false h = h

  pub none_there : (es : List (List ℕ × I)) (x : List ℕ) → bound_to es x ≡ None → bound_to (trees_bound t es) x ≡ None
  none_there es x h = trees_find es x ∙ ap (option_map t) h

  pub none_here : (es : List (List ℕ × I)) (x : List ℕ) → bound_to (trees_bound t es) x ≡ None → bound_to es x ≡ None
  none_here es x h = go (bound_to es x) (sym (trees_find es x) ∙ h)
    where
      go : (o : Option I) → option_map t o ≡ None → o ≡ None
      go None k = refl
      go (Some i) k = absurd (cc)

  pub length_trees : (es : List (List ℕ × I)) → length (trees_bound t es) ≡ length es
  length_trees es = length-map es (λ e. (e.0, t e.1))

  pub bind_trees : (es : List (List ℕ × I)) (x : List ℕ) (id : I) → bind (trees_bound t es) x (t id) ≡ trees_bound t (bind es x id)
  bind_trees [] x id = refl
  bind_trees (e ∷ es) x id = go (same_name x e.0) (bind_trees es x id)
    where
      go : (b : Bool) → bind (trees_bound t es) x (t id) ≡ trees_bound t (bind es x id)
          → (if b then (e.0, t id) ∷ trees_bound t es else (e.0, t e.1) ∷ bind (trees_bound t es) x (t id)) ≡ trees_bound t (if b then (e.0, id) ∷ es else e ∷ bind es x id)
      go true h = refl
      go false h = ap (λ zs. (e.0, t e.1) ∷ zs) h

  -- no room for the name among the ids is none among the trees
  pub no_room : (es : List (List ℕ × I)) (x : List ℕ) → bound_to es x ≡ None → most_bound ≤ length es → HasNoRoom (trees_bound t es) (Some x)
  no_room es x h k = (none_there es x h, subst (λ n. most_bound ≤ n) (sym (length_trees es)) k)

  pub room_here : (es : List (List ℕ × I)) (x : List ℕ) → HasNoRoom (trees_bound t es) (Some x) → (bound_to es x ≡ None) × (most_bound ≤ length es)
  room_here es x h = (none_here es x h.0, subst (λ n. most_bound ≤ n) (length_trees es) h.1)

-- trees of ids that are kept
pub trees_kept : {I : Type 0} (old : I → Type 0) (t : I → Tree) (new : I → Type 0) (u : I → Tree) (es : List (List ℕ × I)) → Keeps old t new u → AreIds old es → trees_bound u es ≡ trees_bound t es
trees_kept old t new u [] k h = refl
trees_kept old t new u (e ∷ es) k h = ap₂ (λ a bs. (e.0, a) ∷ bs) (k.same e.1 h.0) (trees_kept old t new u es k h.1)

pub ids_kept : {I : Type 0} (old : I → Type 0) (t : I → Tree) (new : I → Type 0) (u : I → Tree) (es : List (List ℕ × I)) → Keeps old t new u → AreIds old es → AreIds new es
ids_kept old t new u [] k h = tt
ids_kept old t new u (e ∷ es) k h = (k.is e.1 h.0, ids_kept old t new u es k h.1)

-- what is found under another name, and under the name that is bound
pub bound_there : {I : Type 0} (es : List (List ℕ × I)) (x y : List ℕ) (a b : I) → bound_to (bind es x a) y ≡ Some b → (bound_to es y ≡ Some b) ⊎ (b ≡ a)
bound_there [] x y a b h = go (same_name y x) h
  where
    go : (t : Bool) → cond t (Some a) None ≡ Some b → (None ≡ Some b) ⊎ (b ≡ a)
    go true k = inr (cc)
    go false k = absurd (cc)
bound_there (e ∷ es) x y a b h = go (same_name x e.0) (same_name y e.0) h (bound_there es x y a b)
  where
    go : (s t : Bool) → bound_to (if s then (e.0, a) ∷ es else e ∷ bind es x a) y ≡ Some b → (bound_to (bind es x a) y ≡ Some b → (bound_to es y ≡ Some b) ⊎ (b ≡ a)) → (bound_to (e ∷ es) y ≡ Some b) ⊎ (b ≡ a)
    go true t k r = here (same_name y e.0) k
      where
        here : (q : Bool) → cond q (Some a) (bound_to es y) ≡ Some b → (cond q (Some e.1) (bound_to es y) ≡ Some b) ⊎ (b ≡ a)
        here true p = inr (cc)
        here false p = inl p
    go false t k r = there (same_name y e.0) k
      where
        there : (q : Bool) → cond q (Some e.1) (bound_to (bind es x a) y) ≡ Some b → (cond q (Some e.1) (bound_to es y) ≡ Some b) ⊎ (b ≡ a)
        there true p = inl p
        there false p = r p

pub bind_ids : {I : Type 0} (is : I → Type 0) (es : List (List ℕ × I)) (x : List ℕ) (a : I) → AreIds is es → is a → AreIds is (bind es x a)
bind_ids is [] x a h k = (k, tt)
bind_ids is (e ∷ es) x a h k = go (same_name x e.0) (bind_ids is es x a h.1 k)
  where
    go : (b : Bool) → AreIds is (bind es x a) → AreIds is (if b then (e.0, a) ∷ es else e ∷ bind es x a)
    go true r = (k, h.1)
    go false r = (h.0, r)

-- ---- bindings made anew

-- the names before a place of a list of different names are not the name there
names_apart : (names : List (List ℕ)) (i : ℕ) (x : List ℕ) → IsDistinct same_name names → slice_get names i ≡ Some x → AllByRecursion (λ y. same_name x y ≡ false) (take i names)
unfolding IsDistinct
names_apart [] i x d e = absurd (cc)
names_apart (y ∷ ys) zero x d e = tt
names_apart (y ∷ ys) (suc i) x d e = (go (same_name x y) refl, names_apart ys i x d.1 e)
  where
    go : (b : Bool) → same_name x y ≡ b → same_name x y ≡ false
    go false p = p
    go true p =
        let same : x ≡ y = same_is x y p in
        let places : zero ≡ suc i = one_place (y ∷ ys) zero (suc i) x d (ap Some (sym same)) e in
        absurd (omega (arith, places))

none_found : {I : Type 0} (x : List ℕ) (es : List (List ℕ × I)) → AllByRecursion (λ y. same_name x y ≡ false) (keys_of es) → bound_to es x ≡ None
none_found x [] h = refl
none_found x (e ∷ es) h = ap (λ b. cond b (Some e.1) (bound_to es x)) h.0 ∙ none_found x es h.1

-- the next name with its id goes to the end
pub bind_next : {I : Type 0} (names : List (List ℕ)) (i : ℕ) (x : List ℕ) (es : List (List ℕ × I)) (a : I) → IsDistinct same_name names → slice_get names i ≡ Some x → keys_of es ≡ take i names
    → bind es x a ≡ es ++ (x, a) ∷ []
bind_next names i x es a d e k =
    let none = none_found x es (subst (AllByRecursion (λ y. same_name x y ≡ false)) (sym k) (names_apart names i x d e)) in
    insert_entry-absent same_name x a es (absent_from_lookup (same_name x) es none)

-- a list of pairs is determined by its names and its ids
pub trees_by_parts : {I J : Type 0} (t : I → Tree) (u : J → Tree) (es : List (List ℕ × I)) (fs : List (List ℕ × J)) → keys_of fs ≡ keys_of es → map u (map (λ e. e.1) fs) ≡ map t (map (λ e. e.1) es)
    → trees_bound u fs ≡ trees_bound t es
trees_by_parts t u [] [] k h = refl
trees_by_parts t u [] (f ∷ fs) k h = absurd (cc)
trees_by_parts t u (e ∷ es) [] k h = absurd (cc)
trees_by_parts t u (e ∷ es) (f ∷ fs) k h =
    let a : f.0 ≡ e.0 = cc in
    let b : u f.1 ≡ t e.1 = cc in
    let c : keys_of fs ≡ keys_of es = cc in
    let d : map u (map (λ g. g.1) fs) ≡ map t (map (λ g. g.1) es) = cc in
    ap₂ (λ p ps. p ∷ ps) (ap₂ (λ p q. (p, q)) a b) (trees_by_parts t u es fs c d)

pub ids_by_list : {I : Type 0} (is : I → Type 0) (es : List (List ℕ × I)) → AllByRecursion is (map (λ e. e.1) es) → AreIds is es
ids_by_list is [] h = tt
ids_by_list is (e ∷ es) h = (h.0, ids_by_list is es h.1)

pub list_by_ids : {I : Type 0} (is : I → Type 0) (es : List (List ℕ × I)) → AreIds is es → AllByRecursion is (map (λ e. e.1) es)
list_by_ids is [] h = tt
list_by_ids is (e ∷ es) h = (h.0, list_by_ids is es h.1)

-- ---- the steps of the loops over what is bound

get_map : {X Y : Type 0} (f : X → Y) (es : List X) (i : ℕ) → slice_get (map f es) i ≡ option_map f (slice_get es i)
get_map f [] i = refl
get_map f (x ∷ xs) zero = refl
get_map f (x ∷ xs) (suc i) = get_map f xs i

pub ids_step : {I : Type 0} (es : List (List ℕ × I)) (i : ℕ) (a : I) (old new : List I) → old ≡ take i (map (λ e. e.1) es) → option_map (λ e. e.1) (slice_get es i) ≡ Some a → new ≡ old ++ a ∷ []
    → new ≡ take (i + 1) (map (λ e. e.1) es)
ids_step es i a old new before here more =
    subst (λ n. new ≡ take n (map (λ e. e.1) es)) (sym (add-one i)) (more ∙ ap (λ xs. xs ++ a ∷ []) before ∙ sym (take_next (λ e. e.1) es i a here))

pub names_step : {I : Type 0} (es old new : List (List ℕ × I)) (i : ℕ) (x : List ℕ) (a : I) → IsDistinct same_name (keys_of es) → keys_of old ≡ take i (keys_of es) → option_map (λ e. e.0) (slice_get es i) ≡ Some x → new ≡ bind old x a
    → (keys_of new ≡ take (i + 1) (keys_of es)) × (map (λ e. e.1) new ≡ map (λ e. e.1) old ++ a ∷ [])
names_step es old new i x a d before here more =
    let end : new ≡ old ++ (x, a) ∷ [] = more ∙ bind_next (keys_of es) i x old a d (get_map (λ e. e.0) es i ∙ here) before in (
      subst (λ n. keys_of new ≡ take n (keys_of es)) (sym (add-one i))
          (ap keys_of end ∙ map-append (λ e. e.0) old ((x, a) ∷ []) ∙ ap (λ xs. xs ++ x ∷ []) before ∙ sym (take_next (λ e. e.0) es i x here)),
      ap (map (λ e. e.1)) end ∙ map-append (λ e. e.1) old ((x, a) ∷ []),
    )

pub list_step : {I : Type 0} (ids : List I) (i : ℕ) (d : I) (old new : List I) → old ≡ take i ids → i < length ids → new ≡ old ++ get_or ids i d ∷ [] → new ≡ take (i + 1) ids
list_step ids i d old new before l more =
    subst (λ n. new ≡ take n ids) (sym (add-one i)) (more ∙ ap (λ xs. xs ++ get_or ids i d ∷ []) before ∙ sym (take-suc ids i d l))

-- the names with one more bound
keys_bind : {I : Type 0} (es : List (List ℕ × I)) (x : List ℕ) (a : I) → keys_of (bind es x a) ≡ with_name (keys_of es) x
keys_bind [] x a = refl
keys_bind (e ∷ es) x a = go (same_name x e.0) (list_any (same_name x) (keys_of es)) (keys_bind es x a)
  where
    go : (b c : Bool) → keys_of (bind es x a) ≡ (if c then keys_of es else keys_of es ++ x ∷ [])
        → keys_of (if b then (e.0, a) ∷ es else e ∷ bind es x a) ≡ (if b || c then e.0 ∷ keys_of es else (e.0 ∷ keys_of es) ++ x ∷ [])
    go true c h = refl
    go false true h = ap (λ ks. e.0 ∷ ks) h
    go false false h = ap (λ ks. e.0 ∷ ks) h

pub bind_distinct : {I : Type 0} (es : List (List ℕ × I)) (x : List ℕ) (a : I) → IsDistinct same_name (keys_of es) → IsDistinct same_name (keys_of (bind es x a))
bind_distinct es x a d = subst (IsDistinct same_name) (sym (keys_bind es x a)) (after_distinct (x ∷ []) (keys_of es) d)
