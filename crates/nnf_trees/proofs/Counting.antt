-- Sums of numbers that are there as far as they are below 2 ^ 64.
use Rattle.std.proofs.Common.{◌≡◌, ℕ, ◌+◌, ◌<◌, ◌≤◌, ◌^◌, Bool, true, false, nat_lt, sym, ap, ◌∙◌, refl, arith, Option, Some, None, List, ◌∷◌, length, drop, get_or, suc, add-one, drop-cons}
use Rattle.std.proofs.lemmas.Bool.{ltb-true, ltb-false, lt-ltb}
use Rattle.std.specs.Prelude.{if◌then◌else◌}
use Rattle.nnf_trees.specs.Forms.{limited, sum_of}

small : (n : ℕ) → n < 2 ^ 64 → limited n ≡ Some n
small n h = ap (λ b. if b then Some n else None) (lt-ltb n (2 ^ 64) h)

large : (n : ℕ) → 2 ^ 64 ≤ n → limited n ≡ None
large n h = limited_by (nat_lt n (2 ^ 64)) refl
  where
    limited_by : (b : Bool) → nat_lt n (2 ^ 64) ≡ b → limited n ≡ None
    limited_by true e = absurd (omega (arith, ltb-true n (2 ^ 64) e, h))
    limited_by false e = ap (λ b. if b then Some n else None) e

sum_by : (m n : ℕ) (a b : Bool) → nat_lt m (2 ^ 64) ≡ a → nat_lt n (2 ^ 64) ≡ b → sum_of (if a then Some m else None) (if b then Some n else None) ≡ limited (m + n)
sum_by m n true true d e = refl
sum_by m n true false d e = sym (large (m + n) (omega (arith, ltb-false n (2 ^ 64) e)))
sum_by m n false b d e = sym (large (m + n) (omega (arith, ltb-false m (2 ^ 64) d)))

-- the sum of two such numbers is such a number
pub limited_sum : (m n : ℕ) → sum_of (limited m) (limited n) ≡ limited (m + n)
limited_sum m n = sum_by m n (nat_lt m (2 ^ 64)) (nat_lt n (2 ^ 64)) refl refl

pub sum_is : (s t : Option ℕ) (m n k : ℕ) → s ≡ limited m → t ≡ limited n → m + n ≡ k → sum_of s t ≡ limited k
sum_is s t m n k d e f = ap (λ x. sum_of x t) d ∙ ap (sum_of (limited m)) e ∙ limited_sum m n ∙ ap limited f

-- a list from the i-th element on
pub drop_at : {X : Type 0} (xs : List X) (i : ℕ) (x : X) → i < length xs → x ≡ get_or xs i x → drop i xs ≡ x ∷ drop (i + 1) xs
drop_at xs i x h e = rw (add-one, drop-cons xs i x) (ap (λ y. y ∷ drop (suc i) xs) (sym e))

-- s counts some of the members, and those left make up the whole
abbrev pub CountsBefore : Option ℕ → ℕ → ℕ → Type 0
CountsBefore s left all = (k : ℕ) × (s ≡ limited k) × (k + left ≡ all)

-- one member more is counted
pub counted_more : (s t s2 : Option ℕ) (m n left all : ℕ) → CountsBefore s left all → left ≡ m + n → t ≡ limited m → s2 ≡ sum_of s t → CountsBefore s2 n all
counted_more s t s2 m n left all h l e f = (h.0 + m, f ∙ sum_is s t h.0 m (h.0 + m) h.1 e refl, omega (arith, h.2, l))

pub counted_all : (s : Option ℕ) (left all : ℕ) → CountsBefore s left all → left ≡ 0 → s ≡ limited all
counted_all s left all h e = h.1 ∙ ap limited (omega (arith, h.2, e))

-- two members under one node
pub two_sizes : (s t u v : Option ℕ) (a b n : ℕ) → u ≡ sum_of s t → s ≡ limited a → t ≡ limited b → v ≡ sum_of u (Some 1) → n ≡ suc (a + (b + 0)) → v ≡ limited n
two_sizes s t u v a b n e f g h l = h ∙ sum_is u (Some 1) (a + b) 1 n (e ∙ sum_is s t a b (a + b) f g refl) refl (omega (arith, l))

pub one_more : (s t : Option ℕ) (k : ℕ) → t ≡ sum_of s (Some 1) → s ≡ limited k → t ≡ limited (k + 1)
one_more s t k e f = e ∙ sum_is s (Some 1) k 1 (k + 1) f refl refl

-- both cases of an equivalence under one node, each under one
pub equivalence_sizes : (both both2 u v w x : Option ℕ) (a b d e n : ℕ) → both ≡ limited (a + b) → both2 ≡ limited (d + e) → u ≡ sum_of both both2 → v ≡ sum_of u (Some 1) → w ≡ sum_of v (Some 1) → x ≡ sum_of w (Some 1)
    → n + 0 ≡ a + b + (d + e) + 3 → x ≡ limited n
equivalence_sizes both both2 u v w x a b d e n f g h i j k l =
    one_more w x (a + b + (d + e) + 1 + 1) k (one_more v w (a + b + (d + e) + 1) j (one_more u v (a + b + (d + e)) i (h ∙ sum_is both both2 (a + b) (d + e) (a + b + (d + e)) f g refl)))
    ∙ ap limited (omega (arith, l))
