-- Lists with each element once, and what is said of some or of each element of joined lists.
use Rattle.std.proofs.Common.{◌≡◌, List, [], ◌∷◌, ◌++◌, sym, subst, refl, inl, inr, ⊎_elim, ◌↔◌, ℕ}
use Rattle.logic_meaning.specs.Some.{SomeOf, Among, EachOf}
use Rattle.formula_laws.specs.StandsOnce.{StandsOnce}
use Rattle.formula_laws.proofs.Listed.{among_left, among_right, among_append}
use Rattle.elimination_theory.proofs.SomeListed.{some_left, some_right, some_either}
use Rattle.case_theory.specs.Pending.{TakingOutLeavesRest}

module _ {X : Type 0} where
  -- x is an element: written the other way round
  pub among_other : (x : X) (xs : List X) → SomeOf (λ y. x ≡ y) xs → Among xs x
  among_other x [] m = m
  among_other x (y ∷ ys) (inl e) = inl (sym e)
  among_other x (y ∷ ys) (inr m) = inr (among_other x ys m)

  pub other_among : (x : X) (xs : List X) → Among xs x → SomeOf (λ y. x ≡ y) xs
  other_among x [] m = m
  other_among x (y ∷ ys) (inl e) = inl (sym e)
  other_among x (y ∷ ys) (inr m) = inr (other_among x ys m)

  -- an element in front that is not there
  pub once_more : (x : X) (xs : List X) → ¬ (Among xs x) → StandsOnce xs → StandsOnce (x ∷ xs)
  once_more x xs n o = (λ m. n (among_other x xs m), o)

  pub once_head : (x : X) (xs : List X) → StandsOnce (x ∷ xs) → ¬ (Among xs x)
  once_head x xs o m = o.0 (other_among x xs m)

  -- fewer elements at the end
  pub once_fewer : (xs ys zs : List X) → StandsOnce zs → ((z : X) → Among zs z → Among ys z) → StandsOnce (xs ++ ys) → StandsOnce (xs ++ zs)
  once_fewer [] ys zs o sub h = o
  once_fewer (x ∷ xs) ys zs o sub h =
      once_more x (xs ++ zs) (λ m. once_head x (xs ++ ys) h (⊎_elim (among_left xs ys x) (λ n. among_right xs ys x (sub x n)) (among_append xs zs x m))) (once_fewer xs ys zs o sub h.1)

  pub once_right : (xs ys : List X) → StandsOnce (xs ++ ys) → StandsOnce ys
  once_right [] ys o = o
  once_right (x ∷ xs) ys o = once_right xs ys o.1

  -- an element of the second list is none of the first
  pub once_apart : (xs ys : List X) (y : X) → StandsOnce (xs ++ ys) → Among ys y → ¬ (Among xs y)
  once_apart [] ys y o m n = n
  once_apart (x ∷ xs) ys y o m (inl e) = once_head x (xs ++ ys) o (subst (λ (z : X). Among (xs ++ ys) z) (sym e) (among_right xs ys y m))
  once_apart (x ∷ xs) ys y o m (inr n) = once_apart xs ys y o.1 m n

  -- the list in the middle replaced
  pub some_middle : (P : X → Type 0) (before : List X) (x : X) (ys rest : List X) → P x ↔ SomeOf P ys → SomeOf P (before ++ x ∷ rest) ↔ SomeOf P ((before ++ ys) ++ rest)
  some_middle P before x ys rest e = (
    λ s. ⊎_elim (λ t. some_left P (before ++ ys) rest (some_left P before ys t)) (⊎_elim (λ t. some_left P (before ++ ys) rest (some_right P before ys (e.0 t))) (some_right P (before ++ ys) rest)) (some_either P before (x ∷ rest) s),
    λ s. ⊎_elim (λ t. ⊎_elim (some_left P before (x ∷ rest)) (λ u. some_right P before (x ∷ rest) (inl (e.1 u))) (some_either P before ys t)) (λ t. some_right P before (x ∷ rest) (inr t)) (some_either P (before ++ ys) rest s),
  )

  pub each_from : (P : X → Type 0) (xs : List X) → ((x : X) → Among xs x → P x) → EachOf P xs
  each_from P [] h = tt
  each_from P (x ∷ xs) h = (h x (inl refl), each_from P xs (λ y m. h y (inr m)))

-- a name taken out of a list leaves the rest
once_out : (before after : List ℕ) (x : ℕ) → StandsOnce (before ++ x ∷ after) → StandsOnce (before ++ after)
once_out [] after x o = o.1
once_out (z ∷ before) after x o =
    once_more z (before ++ after) (λ m. once_head z (before ++ x ∷ after) o (⊎_elim (among_left before (x ∷ after) z) (λ n. among_right before (x ∷ after) z (inr n)) (among_append before after z m))) (once_out before after x o.1)

not_left : (before after : List ℕ) (x : ℕ) → StandsOnce (before ++ x ∷ after) → ¬ (Among (before ++ after) x)
not_left [] after x o m = once_head x after o m
not_left (z ∷ before) after x o (inl e) = once_head z (before ++ x ∷ after) o (subst (λ (y : ℕ). Among (before ++ x ∷ after) y) (sym e) (among_right before (x ∷ after) x (inl refl)))
not_left (z ∷ before) after x o (inr m) = not_left before after x o.1 m

pub taken_out : TakingOutLeavesRest
taken_out before after x o = record {
  once = once_out before after x o;
  same = λ y. (
    λ m. (
      λ e. not_left before after x o (subst (λ (z : ℕ). Among (before ++ after) z) (sym e) m),
      ⊎_elim (among_left before (x ∷ after) y) (λ n. among_right before (x ∷ after) y (inr n)) (among_append before after y m),
    ),
    λ t. ⊎_elim (among_left before after y) (⊎_elim (λ e. absurd (t.0 e)) (among_right before after y)) (among_append before (x ∷ after) y t.1),
  );
}
