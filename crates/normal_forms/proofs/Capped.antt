-- Sizes that stop at the most are those of the whole numbers.
use Rattle.std.proofs.Common.{◌≡◌, ℕ, zero, suc, ◌+◌, ◌*◌, ◌≤◌, ◌<◌, nat_eq, eqb-true, min, Bool, true, false, not, List, [], ◌∷◌, ◌++◌, map, refl, ap, ◌∙◌, arith, nat_le}
use Rattle.std.specs.Prelude.{◌||◌, ◌&&◌, if◌then◌else◌}
use Rattle.std.specs.List.{AllByRecursion}
use Rattle.std.proofs.lemmas.Bool.Decides.{nat_tests}
use Rattle.std.proofs.Math.Nat.{mul-le-mul_left}
use Rattle.logic_meaning.specs.declared.junction.Junction.{Junction}
use Rattle.logic_meaning.specs.Tree.{Tree}
use Rattle.formula_tree.specs.Trees.{members}
use Rattle.shape_theory.specs.Counts as counts
use Rattle.shape_theory.specs.Counts.{nothing_sizes, is_bare, product_sizes, sum_sizes, joined_sizes, sizes, more_sizes}
use Rattle.normal_forms.specs.declared.sizes.Sizes.{Sizes}
use Rattle.normal_forms.specs.Sizes.{most, capped, counted, all_joined}

-- a product passes m where a factor does and the other is not 0
large_left : (m a b : ℕ) → m ≤ a → 1 ≤ m → 1 ≤ b → (m ≤ m * min b m) × (m ≤ a * b)
large_left m a b h i k =
    let x : m * 1 ≤ m * min b m = mul-le-mul_left m (omega arith) in
    let y : a * 1 ≤ a * b = mul-le-mul_left a k in
    (omega arith, omega arith)

capped_product : (m a b : ℕ) → 1 ≤ m → min (min a m * min b m) m ≡ min (a * b) m
capped_product m a b h = split (nat_le a m) refl (nat_le b m) refl
  where
    swap : (x y : ℕ) → x * y ≡ y * x
    swap x y = omega arith

    one_large : (x y : ℕ) → m < x → min (min x m * min y m) m ≡ min (x * y) m
    one_large x zero l =
        let z : min zero m ≡ 0 = omega arith in
        let n : min x m * 0 ≡ 0 = omega arith in
        let e : min x m * min zero m ≡ 0 = ap (λ t. min x m * t) z ∙ n in
        omega arith
    one_large x (suc y) l =
        let k = large_left m x (suc y) (omega arith) h (omega arith) in
        let e : min x m ≡ m = omega arith in
        let f : min x m * min (suc y) m ≡ m * min (suc y) m = ap (λ t. t * min (suc y) m) e in
        let u = k.0 in
        let v = k.1 in
        omega arith

    split : (s : Bool) → nat_le a m ≡ s → (t : Bool) → nat_le b m ≡ t → min (min a m * min b m) m ≡ min (a * b) m
    split true e true f =
        let x : a ≤ m = grind (arith, nat_tests) in
        let y : b ≤ m = grind (arith, nat_tests) in
        let u : min a m ≡ a = omega arith in
        let v : min b m ≡ b = omega arith in
        ap (λ t. min (t * min b m) m) u ∙ ap (λ t. min (a * t) m) v
    split true e false f =
        let y : m < b = grind (arith, nat_tests) in
        ap (λ t. min t m) (swap (min a m) (min b m)) ∙ one_large b a y ∙ ap (λ t. min t m) (swap b a)
    split false e t f = let x : m < a = grind (arith, nat_tests) in one_large a b x

same_sizes : (x y : Sizes) → x.lines ≡ y.lines → x.places ≡ y.places → x ≡ y
same_sizes x y e f = λ i. record { lines = e i; places = f i }

product_capped : (x y : counts.Sizes) → capped (product_sizes (counted (capped x)) (counted (capped y))) ≡ capped (product_sizes x y)
product_capped x y =
    let a = capped_product most x.lines y.lines (omega arith) in
    let b = capped_product most x.places y.lines (omega arith) in
    let c = capped_product most x.lines y.places (omega arith) in
    same_sizes (capped (product_sizes (counted (capped x)) (counted (capped y)))) (capped (product_sizes x y)) a
    (three most (min x.places most * min y.lines most) (x.places * y.lines) (min x.lines most * min y.places most) (x.lines * y.places) b c)
  where
    three : (m p q r s : ℕ) → min p m ≡ min q m → min r m ≡ min s m → min (p + r) m ≡ min (q + s) m
    three m p q r s e f = omega arith

sum_capped : (x y : counts.Sizes) → capped (sum_sizes (counted (capped x)) (counted (capped y))) ≡ capped (sum_sizes x y)
sum_capped x y = same_sizes (capped (sum_sizes (counted (capped x)) (counted (capped y)))) (capped (sum_sizes x y)) (omega arith) (omega arith)

zero_capped : (n : ℕ) → nat_eq (min n most) 0 ≡ nat_eq n 0
zero_capped zero = refl
zero_capped (suc n) = split (nat_eq (min (suc n) most) 0) refl (nat_eq (suc n) 0) refl
  where
    split : (s : Bool) → nat_eq (min (suc n) most) 0 ≡ s → (t : Bool) → nat_eq (suc n) 0 ≡ t → s ≡ t
    split true e t f = let k = eqb-true (min (suc n) most) 0 e in absurd (omega arith)
    split false e true f = let k = eqb-true (suc n) 0 f in absurd (omega arith)
    split false e false f = refl

bare_capped : (x : counts.Sizes) → is_bare (counted (capped x)) ≡ is_bare x
bare_capped x = ap (λ b. b && not (nat_eq (min x.lines most) 0)) (zero_capped x.places) ∙ ap (λ b. nat_eq x.places 0 && not b) (zero_capped x.lines)

joined_capped : (b : Bool) (x y : counts.Sizes) → capped (joined_sizes b (counted (capped x)) (counted (capped y))) ≡ capped (joined_sizes b x y)
joined_capped true x y = product_capped x y
joined_capped false x y =
    ap (λ b. capped (if b || is_bare (counted (capped y)) then nothing_sizes true else sum_sizes (counted (capped x)) (counted (capped y)))) (bare_capped x)
    ∙ ap (λ b. capped (if is_bare x || b then nothing_sizes true else sum_sizes (counted (capped x)) (counted (capped y)))) (bare_capped y)
    ∙ split (is_bare x || is_bare y)
  where
    split : (b : Bool) → capped (if b then nothing_sizes true else sum_sizes (counted (capped x)) (counted (capped y))) ≡ capped (if b then nothing_sizes true else sum_sizes x y)
    split true = refl
    split false = sum_capped x y

-- the sizes of members, each of them capped
pub members_capped : {Id : Type 0} (j : Junction) (b : Bool) (of : Id → Tree) (at : Id → Sizes) (x : counts.Sizes) (ids : List Id) → AllByRecursion (λ id. at id ≡ capped (sizes j (of id))) ids
    → all_joined b (capped x) (map at ids) ≡ capped (more_sizes j b x (members (map of ids)))
members_capped j b of at x [] h = refl
members_capped j b of at x (id ∷ ids) h =
    ap (λ y. all_joined b (capped (joined_sizes b (counted (capped x)) (counted y))) (map at ids)) h.0
    ∙ ap (λ y. all_joined b y (map at ids)) (joined_capped b x (sizes j (of id)))
    ∙ members_capped j b of at (joined_sizes b x (sizes j (of id))) ids h.1

-- one member more
pub joined_more : (b : Bool) (x y : Sizes) (ys : List Sizes) → all_joined b x (ys ++ y ∷ []) ≡ capped (joined_sizes b (counted (all_joined b x ys)) (counted y))
joined_more b x y [] = refl
joined_more b x y (z ∷ ys) = joined_more b (capped (joined_sizes b (counted x) (counted z))) y ys
