-- Whether each of a list passes a test, and whether some does, one after another.
use Rattle.std.proofs.Common.{◌≡◌, ℕ, zero, suc, ◌+◌, ◌<◌, Bool, true, false, refl, sym, ap, ◌∙◌, List, [], ◌∷◌, ◌++◌, length, take, map, get_or, arith}
use Rattle.std.proofs.lemmas.List.{take_more}
use Rattle.std.specs.List.{AllByRecursion}
use Rattle.std.specs.Prelude.{◌||◌, ◌&&◌}
use Rattle.logic_meaning.specs.Atom.{Atom}
use Rattle.logic_meaning.specs.Tree.{Tree}
use Rattle.formula_tree.specs.Trees.{members}
use Rattle.linear_theory.specs.Answer.{truth_by, all_by, some_by}
use Rattle.linear_opt.specs.Truths.{all_of, some_of}

module _ {Id : Type 0} (test : Id → Bool) where
  -- each so far, and this one
  pub all_more : (ids : List Id) (i : ℕ) (d : Id) → i < length ids → all_of test (take i ids) ≡ true → test (get_or ids i d) ≡ true → all_of test (take (i + 1) ids) ≡ true
  all_more ids i d h e f = ap (all_of test) (take_more ids i d h) ∙ go (take i ids) e
    where
      go : (xs : List Id) → all_of test xs ≡ true → all_of test (xs ++ get_or ids i d ∷ []) ≡ true
      go [] g = ap (λ y. y && true) f
      go (x ∷ xs) g = step (test x) (all_of test xs) g (go xs)
        where
          step : (a b : Bool) → (a && b) ≡ true → (b ≡ true → all_of test (xs ++ get_or ids i d ∷ []) ≡ true) → (a && all_of test (xs ++ get_or ids i d ∷ [])) ≡ true
          step true b g r = r g
          step false b g r = cc

  -- not this one
  pub not_all : (ids : List Id) (i : ℕ) (d : Id) → i < length ids → test (get_or ids i d) ≡ false → false ≡ all_of test ids
  not_all [] i d h f = absurd (omega arith)
  not_all (x ∷ ids) zero d h f = sym (ap (λ y. y && all_of test ids) f)
  not_all (x ∷ ids) (suc i) d h f = last (test x) (all_of test ids) (not_all ids i d (omega arith) f)
    where
      last : (a b : Bool) → false ≡ b → false ≡ (a && b)
      last true b e = e
      last false b e = refl

  -- none so far, nor this one
  pub none_more : (ids : List Id) (i : ℕ) (d : Id) → i < length ids → some_of test (take i ids) ≡ false → test (get_or ids i d) ≡ false → some_of test (take (i + 1) ids) ≡ false
  none_more ids i d h e f = ap (some_of test) (take_more ids i d h) ∙ go (take i ids) e
    where
      go : (xs : List Id) → some_of test xs ≡ false → some_of test (xs ++ get_or ids i d ∷ []) ≡ false
      go [] g = ap (λ y. y || false) f
      go (x ∷ xs) g = step (test x) (some_of test xs) g (go xs)
        where
          step : (a b : Bool) → (a || b) ≡ false → (b ≡ false → some_of test (xs ++ get_or ids i d ∷ []) ≡ false) → (a || some_of test (xs ++ get_or ids i d ∷ [])) ≡ false
          step true b g r = cc
          step false b g r = r g

  -- this one
  pub some_here : (ids : List Id) (i : ℕ) (d : Id) → i < length ids → test (get_or ids i d) ≡ true → true ≡ some_of test ids
  some_here [] i d h f = absurd (omega arith)
  some_here (x ∷ ids) zero d h f = sym (ap (λ y. y || some_of test ids) f)
  some_here (x ∷ ids) (suc i) d h f = last (test x) (some_of test ids) (some_here ids i d (omega arith) f)
    where
      last : (a b : Bool) → true ≡ b → true ≡ (a || b)
      last true b e = refl
      last false b e = e

  -- the test is the truth of each
  module _ (t : Id → Tree) (told : Atom → Bool) where
    pub all_same : (ids : List Id) → AllByRecursion (λ id. test id ≡ truth_by told (t id)) ids → all_of test ids ≡ all_by told (members (map t ids))
    all_same [] h = refl
    all_same (x ∷ ids) h = λ i. h.0 i && all_same ids h.1 i

    pub some_same : (ids : List Id) → AllByRecursion (λ id. test id ≡ truth_by told (t id)) ids → some_of test ids ≡ some_by told (members (map t ids))
    some_same [] h = refl
    some_same (x ∷ ids) h = λ i. h.0 i || some_same ids h.1 i
