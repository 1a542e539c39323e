-- How many digits a number has.
use Rattle.std.proofs.Common.{◌≡◌, ℕ, ◌+◌, ◌*◌, ◌^◌, ◌%◌, ◌<◌, ◌≤◌, List, [], ◌∷◌, ◌++◌, length, arith, length-append, ap, ◌∙◌, sym, subst, add-one}
use Rattle.std.proofs.Math.Nat.{pow-succ'}
use Rattle.std.specs.Fmt.{decimal}
use Rattle.std.proofs.lemmas.Fmt.{decimal_by_steps_wide, length-decimal-le_wide}

-- a number is below the power of ten with so many zeros as it has digits
record HasDigits (n : ℕ) (ds : List ℕ) : Type 0 where
  some : 0 < length ds
  below : n < 10 ^ length ds

power_more : (k : ℕ) → 10 ^ (k + 1) ≡ 10 * 10 ^ k
power_more k = ap (λ z. 10 ^ z) (add-one k) ∙ pow-succ' 10 k

has_digits : (n : ℕ) → n < 10 ^ 64 → HasDigits n (decimal n)
has_digits n h =
    decimal_by_steps_wide HasDigits
    (λ m l. record { some = omega arith; below = omega arith })
    (λ m ds l k.
    let e : length (ds ++ ((48 + m % 10) ∷ [])) ≡ length ds + 1 = length-append ds ((48 + m % 10) ∷ []) in
    let p = power_more (length ds) in
    let q = k.below in
    let d : m < 10 * 10 ^ length ds = omega arith in
    record { some = omega arith; below = subst (λ z. m < 10 ^ z) (sym e) (omega arith) })
    n h

pub some_digit : (n : ℕ) → n < 10 ^ 64 → 0 < length (decimal n)
some_digit n h = (has_digits n h).some

-- a number that is larger by 1 at most has one digit more at most
pub one_digit_more : (m n : ℕ) → m ≤ n + 1 → n < 10 ^ 63 → length (decimal m) ≤ length (decimal n) + 1
one_digit_more m n l h =
    let d = has_digits n (omega arith) in
    let p = power_more (length (decimal n)) in
    let q = d.below in
    let s = d.some in
    length-decimal-le_wide (length (decimal n) + 1) m (omega arith) (omega arith) (omega arith)

pub one_digit : (m : ℕ) → m ≤ 9 → length (decimal m) ≤ 1
one_digit m h = length-decimal-le_wide 1 m (omega arith) (omega arith) (omega arith)
