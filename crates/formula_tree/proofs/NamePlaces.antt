-- The number of a name that is found, and of one that is not.
use Rattle.std.proofs.Common.{◌≡◌, ◌≤◌, ◌+◌, ℕ, Bool, true, false, not, cond, List, [], ◌∷◌, length, Option, Some, None, refl, arith, nat_lt}
use Rattle.std.specs.Prelude.{option_map, unwrap_or, position}
use Rattle.std.specs.List.{prefix_len}
use Rattle.std.proofs.lemmas.Bool.{ltb-false}
use Rattle.logic_meaning.specs.declared.form.VarId.{VarId}
use Rattle.logic_meaning.specs.SameName.{same_name}
use Rattle.logic_meaning.specs.Names.{place}

prefix_within : {X : Type 0} (p : X → Bool) (xs : List X) → prefix_len p xs ≤ length xs
prefix_within p [] = omega arith
prefix_within p (x ∷ xs) = go (p x) (prefix_within p xs)
  where
    go : (b : Bool) → prefix_len p xs ≤ length xs → cond b (1 + prefix_len p xs) 0 ≤ length (x ∷ xs)
    go true h = omega arith
    go false h = omega arith

-- a name that is found has the number found, and another the next
pub number_is : (o : Option VarId) (d : VarId) (names : List (List ℕ)) (x : List ℕ) → option_map (λ (v : VarId). v.number) o ≡ position (same_name x) names → d.number ≡ length names → (unwrap_or o d).number ≡ place names x
number_is o d names x e f = go o (nat_lt (place names x) (length names)) refl e
  where
    go : (o : Option VarId) (b : Bool) → nat_lt (place names x) (length names) ≡ b → option_map (λ (v : VarId). v.number) o ≡ cond b (Some (place names x)) None → (unwrap_or o d).number ≡ place names x
    go (Some v) true i e = cc
    go (Some v) false i e = absurd (cc)
    go None true i e = absurd (cc)
    go None false i e = let l = ltb-false _ _ i in let m = prefix_within (λ y. not (same_name x y)) names in omega arith
