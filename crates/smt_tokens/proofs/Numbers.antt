-- The digits of two parts, and powers of 10.
use Rattle.std.proofs.Common.{◌≡◌, ℕ, suc, ◌+◌, ◌-◌, ◌*◌, ◌/◌, ◌^◌, ◌<◌, ◌≤◌, Bool, true, false, List, [], ◌∷◌, ◌++◌, sym, refl, ap, ◌∙◌, subst, arith, rules}
use Rattle.std.specs.Prelude.{ℤ, pos, nat_lt, if◌then◌else◌}
use Rattle.std.specs.Int.RustNames.{unsigned_abs}
use Rattle.std.specs.Int.{w128, cast_signed, cast_unsigned}
use Rattle.std.proofs.lemmas.Int.{to_z-of_z, fits_signed_from_abs}
use Rattle.std.proofs.lemmas.Bool.{ltb-true, ltb-false}
use Rattle.std.proofs.Math.Nat.{pow-suc, pow-le-pow_right}
use Rattle.language_meaning.specs.declared.tree.Literal.TheVariants.{Fits, Past}
use Rattle.language_meaning.specs.Lexing.{value_after, as_literal, literal_of}
use Rattle.redlog_tokens.proofs.Lexemes.{value_grows}

past_of : (n : ℕ) → 2 ^ 127 ≤ n → Past ≡ as_literal n
past_of n h = let f : nat_lt n (2 ^ 127) ≡ false = search rules in rw f

-- digits behind others go on with their number
parts : (n : ℕ) (ds es : List ℕ) → value_after n (ds ++ es) ≡ value_after (value_after n ds) es
parts n [] es = refl
parts n (d ∷ ds) es = parts (n * 10 + (d - 48)) ds es

fits_if : (n : ℕ) (v : ℤ) (b : Bool) → (if b then Fits (pos n) else Past) ≡ Fits v → v ≡ pos n
fits_if n v true e = cc
fits_if n v false e = cc

fits_value : (ds : List ℕ) (v : ℤ) → literal_of ds ≡ Fits v → v ≡ pos (value_after 0 ds)
unfolding literal_of
fits_value ds v e = fits_if (value_after 0 ds) v (nat_lt (value_after 0 ds) (2 ^ 127)) e

past_if : (n : ℕ) (b : Bool) → nat_lt n (2 ^ 127) ≡ b → (if b then Fits (pos n) else Past) ≡ Past → 2 ^ 127 ≤ n
past_if n true e h = cc
past_if n false e h = ltb-false n (2 ^ 127) e

-- both parts say a number past the limit where the first one does
pub past_both : (ds es : List ℕ) → literal_of ds ≡ Past → Past ≡ literal_of (ds ++ es)
unfolding literal_of
past_both ds es e =
    let first = past_if (value_after 0 ds) (nat_lt (value_after 0 ds) (2 ^ 127)) refl e in
    past_of (value_after 0 (ds ++ es)) (omega (arith, first, parts 0 ds es, value_grows (value_after 0 ds) es))

said_both : (ds es : List ℕ) (n : ℕ) → n ≡ value_after 0 ds → as_literal (value_after n es) ≡ literal_of (ds ++ es)
unfolding literal_of
said_both ds es n is = ap as_literal (ap (λ m. value_after m es) is ∙ sym (parts 0 ds es))

small_if : (n : ℕ) (v : ℤ) (b : Bool) → nat_lt n (2 ^ 127) ≡ b → (if b then Fits (pos n) else Past) ≡ Fits v → n < 2 ^ 127
small_if n v true e h = ltb-true n (2 ^ 127) e
small_if n v false e h = cc

small_value : (ds : List ℕ) (v : ℤ) → literal_of ds ≡ Fits v → value_after 0 ds < 2 ^ 127
unfolding literal_of
small_value ds v e = small_if (value_after 0 ds) v (nat_lt (value_after 0 ds) (2 ^ 127)) refl e

-- the digits behind go on with the number of those before, which fits
pub fits_both : (ds es : List ℕ) (v : ℤ) (n : ℕ) → literal_of ds ≡ Fits v → n ≡ unsigned_abs (cast_signed w128 (cast_unsigned w128 v)) → as_literal (value_after n es) ≡ literal_of (ds ++ es)
fits_both ds es v n fits is =
    let value = fits_value ds v fits in
    let small : unsigned_abs v < 2 ^ 127 = subst (λ z. unsigned_abs z < 2 ^ 127) (sym value) (small_value ds v fits) in
    let back : cast_signed w128 (cast_unsigned w128 v) ≡ v = to_z-of_z w128 v (fits_signed_from_abs w128 v small) in
    said_both ds es n (is ∙ ap unsigned_abs (back ∙ value))

-- one more factor passes the limit
pub past_power : (count i v : ℕ) → v ≡ 10 ^ i → i < count → 170141183460469231731687303715884105727 / 10 < v → Past ≡ as_literal (10 ^ count)
past_power count i v is inside above =
    let most : 10 ^ suc i ≤ 10 ^ count = pow-le-pow_right (omega arith) (omega arith) in
    past_of (10 ^ count) (omega (arith, most, pow-suc 10 i, is, above))
