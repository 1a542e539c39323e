-- The term at a place.
use Rattle.std.proofs.Common.{◌≡◌, ◌<◌, ◌≤◌, ℕ, zero, suc, List, [], ◌∷◌, length, get_or, Option, Some, None, MatchOption, ap, sym, refl, arith}
use Rattle.std.specs.List.{HoldsAt}
use Rattle.std.proofs.lemmas.Option.{slice_get_past}
use Rattle.std.proofs.Math.IntN.{ℤ}
use Rattle.std.specs.Prelude.{option_map, slice_get}
use Rattle.logic_meaning.specs.declared.form.VarId.{VarId}
use Rattle.linear_forms.specs.Linear.{term_of, terms_of}

-- the pair at a place is the term there
pub slice_get-terms_of : (xs : List (VarId × ℤ)) (i : ℕ) → option_map term_of (slice_get xs i) ≡ slice_get (terms_of xs) i
slice_get-terms_of [] i = refl
slice_get-terms_of (p ∷ ps) zero = refl
slice_get-terms_of (p ∷ ps) (suc i) = slice_get-terms_of ps i

at_place : {X : Type 0} (xs : List X) (i : ℕ) (x : X) → i < length xs → ((d : X) → x ≡ get_or xs i d) → Some x ≡ slice_get xs i
at_place [] i x h e = absurd (omega arith)
at_place (y ∷ ys) zero x h e = ap Some (e x)
at_place (y ∷ ys) (suc i) x h e = at_place ys i x (omega arith) e

-- a reference read at a place, or none
pub read_at : {X B : Type 0} (now : B → X) (xs : List X) (i : ℕ) (o : Option B) → MatchOption o (length xs ≤ i) (λ x. (i < length xs) × HoldsAt (λ y. now x ≡ y) xs i) → option_map now o ≡ slice_get xs i
read_at now xs i None h = sym (slice_get_past xs i h)
read_at now xs i (Some x) h = at_place xs i (now x) h.0 h.1

-- as many terms as pairs
pub length-terms_of : (xs : List (VarId × ℤ)) → length (terms_of xs) ≡ length xs
length-terms_of [] = refl
length-terms_of (p ∷ ps) = ap suc (length-terms_of ps)
