-- Lists of values for lists of trees.
use Rattle.std.proofs.Common.{◌≡◌, ◌<◌, ◌+◌, ◌-◌, ℕ, List, [], ◌∷◌, ◌++◌, length, length-drop, take, drop, get_or, refl, ap, ◌∙◌, arith}
use Rattle.std.proofs.lemmas.List.{take_all}
use Rattle.written_syntax.proofs.EntryLists.{rest_at}
use Rattle.smt_resolver.specs.Values.{AreEach}

-- the first value, and the others
pub record First {X V : Type 0} (R : X → V → Type 0) (xs : List X) (v : V) (vs : List V) : Type 0 where
  pub head : X
  pub tail : List X
  pub is : xs ≡ head ∷ tail
  pub first : R head v
  pub others : AreEach R tail vs

module _ {X V : Type 0} (R : X → V → Type 0) where
  pub each_first : (xs : List X) (v : V) (vs : List V) → AreEach R xs (v ∷ vs) → First R xs v vs
  each_first [] v vs h = absurd h
  each_first (x ∷ xs) v vs h = record { head = x; tail = xs; is = refl; first = h.0; others = h.1 }

  pub each_none : (xs : List X) → AreEach R xs [] → xs ≡ []
  each_none [] h = refl
  each_none (x ∷ xs) h = absurd h

  pub each_more : (xs : List X) (x : X) (vs : List V) (v : V) → AreEach R xs vs → R x v → AreEach R (xs ++ x ∷ []) (vs ++ v ∷ [])
  each_more [] x [] v h r = (r, tt)
  each_more [] x (w ∷ vs) v h r = absurd h
  each_more (y ∷ xs) x [] v h r = absurd h
  each_more (y ∷ xs) x (w ∷ vs) v h r = (h.0, each_more xs x vs v h.1 r)

module _ {X V : Type 0} (R S : X → V → Type 0) (w : (x : X) (v : V) → R x v → S x v) where
  pub each_weaker : (xs : List X) (vs : List V) → AreEach R xs vs → AreEach S xs vs
  each_weaker [] [] h = tt
  each_weaker [] (v ∷ vs) h = absurd h
  each_weaker (x ∷ xs) [] h = absurd h
  each_weaker (x ∷ xs) (v ∷ vs) h = (w x v h.0, each_weaker xs vs h.1)

-- what is left begins with the one at this place
pub item_at : {V : Type 0} (vs : List V) (i : ℕ) (v w : V) → i < length vs → v ≡ get_or vs i v → v ≡ w → drop i vs ≡ w ∷ drop (i + 1) vs
item_at vs i v w l e f = rest_at vs i v l e ∙ ap (λ x. x ∷ drop (i + 1) vs) f

-- the slice from a place to the end
pub slice_rest : {V : Type 0} (vs : List V) (k : ℕ) → take (length vs - k) (drop k vs) ≡ drop k vs
slice_rest vs k = take_all (length vs - k) (drop k vs) (simp length-drop (omega arith))
