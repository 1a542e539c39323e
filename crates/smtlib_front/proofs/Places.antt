-- The value at the place of a declared name.
use Rattle.std.proofs.Common.{◌≡◌, ◌<◌, ◌+◌, ℕ, suc, Bool, true, false, not, cond, List, [], ◌∷◌, length, map, Some, None, refl, arith, nat_lt, if◌then◌else◌, slice_get}
use Rattle.std.specs.Prelude.{is_some}
use Rattle.std.proofs.lemmas.Bool.{ltb-true}
use Rattle.exact_numbers.specs.declared.fraction.Fraction.{Fraction}
use Rattle.exact_numbers.specs.Fraction.{frac_of}
use Rattle.language_meaning.specs.Value.{same_name}
use Rattle.logic_meaning.specs.Names.{place}
use Rattle.program_meaning.specs.Texts.{value_among}
use Rattle.smtlib_front.specs.Pairs.{IsDeclared}

-- a declared name has a place in the list
pub declared_within : (names : List (List ℕ)) (x : List ℕ) → IsDeclared names x → place names x < length names
declared_within names x h = ltb-true (place names x) (length names) (go (nat_lt (place names x) (length names)) h)
  where
    go : (b : Bool) → is_some (cond b (Some (place names x)) None) ≡ true → b ≡ true
    go true e = refl
    go false e = e

-- the value there is the name's
pub value_there : (names : List (List ℕ)) (values : List Fraction) (x : List ℕ) (v : Fraction) → place names x < length names → slice_get values (place names x) ≡ Some v
    → frac_of v ≡ value_among names (map frac_of values) x
value_there [] values x v h e = absurd (omega arith)
value_there (d ∷ ds) [] x v h e = cc
value_there (d ∷ ds) (w ∷ vs) x v h e = go (same_name x d) h e (value_there ds vs x v)
  where
    go : (b : Bool) → cond (not b) (1 + place ds x) 0 < length (d ∷ ds) → slice_get (w ∷ vs) (cond (not b) (1 + place ds x) 0) ≡ Some v
        → (place ds x < length ds → slice_get vs (place ds x) ≡ Some v → frac_of v ≡ value_among ds (map frac_of vs) x)
        → frac_of v ≡ (if b then frac_of w else value_among ds (map frac_of vs) x)
    go true h e rest = cc
    go false h e rest = rest (omega arith) (let next : 1 + place ds x ≡ suc (place ds x) = omega arith in rw next at e)
