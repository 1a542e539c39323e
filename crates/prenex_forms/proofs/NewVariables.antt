-- New names are ones that a script can write.
use Rattle.std.proofs.Common.{◌≡◌, ℕ, suc, ◌+◌, ◌%◌, ◌<◌, ◌^◌, List, [], ◌∷◌, ◌++◌, Bool, true, false, ◌&&◌, ◌||◌, ap, ap₂, ◌∙◌, refl, length, drop, arith}
use Rattle.std.specs.Prelude.{nat_lt}
use Rattle.std.specs.Fmt.{decimal}
use Rattle.std.specs.List.{AllByRecursion, list_all}
use Rattle.std.proofs.lemmas.Bool.{le-leb}
use Rattle.std.proofs.lemmas.Fmt.{decimal_by_steps, length-decimal-le}
use Rattle.std.proofs.lemmas.List.Folds.{list_all-append}
use Rattle.language_meaning.specs.Names.{IsVariable, is_digit, is_letter, is_name_part, is_word}
use Rattle.logic_meaning.specs.NewNames.{new_text}

or_of_true : (a b c : Bool) → b ≡ true → ((a || b) || c) ≡ true
or_of_true true true c e = refl
or_of_true false true c e = refl
or_of_true a false c e = absurd (cc)

digit_is : (d : ℕ) → d < 10 → is_digit (48 + d) ≡ true
digit_is d l = ap₂ (λ a b. a && b) (le-leb 48 (48 + d) (omega arith)) (le-leb (48 + d) 57 (omega arith))

digit_part : (d : ℕ) → d < 10 → is_name_part (48 + d) ≡ true
digit_part d l = or_of_true (is_letter (48 + d)) (is_digit (48 + d)) _ (digit_is d l)

-- the digits of a number may stand in a name
digits_parts : (n : ℕ) → n < 2 ^ 64 → list_all is_name_part (decimal n) ≡ true
digits_parts n h =
    decimal_by_steps (λ m ds. list_all is_name_part ds ≡ true) (λ m l. ap (λ b. b && true) (digit_part m l))
    (λ m ds l k. list_all-append is_name_part ds ((48 + m % 10) ∷ []) ∙ ap₂ (λ a b. a && (b && true)) k (digit_part (m % 10) (omega arith))) n h

and_false : (a b : Bool) → (a && false && b) ≡ false
and_false true b = refl
and_false false b = refl

-- no word is v and a number
no_word : (ds : List ℕ) → is_word (118 ∷ ds) ≡ false
unfolding is_word
no_word ds =
    ap₂ (λ a b. a || b) (and_false (nat_lt 8 (suc (length ds))) (list_all is_digit (drop 7 ds))) (and_false (nat_lt 7 (suc (length ds))) (list_all is_digit (drop 6 ds)))

pub new_text_variable : (index : ℕ) → index < 2 ^ 64 → IsVariable (new_text index)
new_text_variable index h =
    let few = length-decimal-le 20 index (omega arith) (omega arith) h in
    record { begins = refl; parts = digits_parts index h; few = omega arith; free = no_word (decimal index) }

pub one_more : (names : List (List ℕ)) (x : List ℕ) → AllByRecursion IsVariable names → IsVariable x → AllByRecursion IsVariable (names ++ x ∷ [])
one_more [] x h k = (k, tt)
one_more (y ∷ names) x h k = (h.0, one_more names x h.1 k)
