-- The greatest common divisor of a list.
use Rattle.std.proofs.Common.{◌≡◌, List, [], ◌∷◌, ◌++◌, arith}
use Rattle.std.proofs.Math.IntN.{ℤ}
use Rattle.std.proofs.lemmas.Int.{ints}
use Rattle.exact_numbers.specs.Divides.{Divides, IsGcd, content_of}
use Rattle.exact_numbers.specs.Division.{DividesAll, IsContent}
use Rattle.exact_numbers.proofs.Divisibility.{divides_zero, divides_trans, divides_both}
use Rattle.exact_numbers.proofs.GreatestDivisor.{gcd_is}

pub divides_all_trans : {d g : ℤ} (xs : List ℤ) → Divides d g → DividesAll g xs → DividesAll d xs
divides_all_trans [] h k = tt
divides_all_trans (x ∷ xs) h k = (divides_trans h k.0, divides_all_trans xs h k.1)

pub content_is : (xs : List ℤ) → IsContent xs (content_of xs)
unfolding content_of
content_is [] = record { not_negative = omega (arith, ints); divides = tt; greatest = λ d _. divides_zero d }
content_is (x ∷ xs) =
    let g = gcd_is x (content_of xs) in
    let c = content_is xs in
    record { not_negative = g.not_negative; divides = (g.left, divides_all_trans xs g.right c.divides); greatest = λ d h. g.greatest d h.0 (c.greatest d h.1) }

pub content_unique : {xs : List ℤ} {g h : ℤ} → IsContent xs g → IsContent xs h → g ≡ h
content_unique {g = g} {h = h} p q = divides_both p.not_negative q.not_negative (q.greatest g p.divides) (p.greatest h q.divides)

pub divides_all_last : {d : ℤ} (xs : List ℤ) (y : ℤ) → DividesAll d (xs ++ y ∷ []) → DividesAll d xs × Divides d y
divides_all_last [] y h = (tt, h.0)
divides_all_last (x ∷ xs) y h = let r = divides_all_last xs y h.1 in ((h.0, r.0), r.1)

pub divides_all_push : {d : ℤ} (xs : List ℤ) (y : ℤ) → DividesAll d xs → Divides d y → DividesAll d (xs ++ y ∷ [])
divides_all_push [] y h k = (k, tt)
divides_all_push (x ∷ xs) y h k = (h.0, divides_all_push xs y h.1 k)

-- one number more at the end
pub content_push : (xs : List ℤ) (y g h : ℤ) → IsContent xs g → IsGcd g y h → IsContent (xs ++ y ∷ []) h
content_push xs y g h c p =
    record {
      not_negative = p.not_negative;
      divides = divides_all_push xs y (divides_all_trans xs p.left c.divides) p.right;
      greatest = λ d k. let r = divides_all_last xs y k in p.greatest d (c.greatest d r.0) r.1;
    }
