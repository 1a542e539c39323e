-- What is left of a list from a place on, and the product of the counts of what is left.
use Rattle.std.proofs.Common.{◌≡◌, ℕ, zero, suc, ◌+◌, ◌*◌, ◌<◌, ◌≤◌, List, [], ◌∷◌, length, get_or, drop, drop-cons, add-one, min, ap, sym, ◌∙◌, arith, inl, inr, subst}
use Rattle.std.proofs.lemmas.Bool.{cases_lt}
use Rattle.std.proofs.Math.Nat.{le-mul_of_pos_right}
use Rattle.std.specs.List.{AllByRecursion}
use Rattle.logic_meaning.specs.Some.{SomeOf}
use Rattle.program_meaning.specs.declared.scale.Scale.{Scale}
use Rattle.program_meaning.specs.Scales.{size}

pub drop_at : {X : Type 0} (xs : List X) (i : ℕ) (x : X) → i < length xs → x ≡ get_or xs i x → drop i xs ≡ x ∷ drop (i + 1) xs
drop_at xs i x h e = rw (add-one, drop-cons xs i x) (ap (λ y. y ∷ drop (suc i) xs) (sym e))

times_assoc : (p c r : ℕ) → (p * c) * r ≡ p * (c * r)
times_assoc p c r = omega arith

passed_zero : (p c m : ℕ) → min (m * 0) m ≡ min (p * (c * 0)) m
passed_zero p c m = let a : m * 0 ≡ 0 = omega arith in let b : p * (c * 0) ≡ 0 = omega arith in ap (λ n. min n m) (a ∙ sym b)

passed : (p c r m : ℕ) → m < p * c → min (m * r) m ≡ min (p * (c * r)) m
passed p c zero m h = passed_zero p c m
passed p c (suc r) m h =
    let a = le-mul_of_pos_right {m = suc r} m (omega arith) in
    let b = le-mul_of_pos_right {m = suc r} (p * c) (omega arith) in
    let e = times_assoc p c (suc r) in
    let k : m ≤ p * (c * suc r) = omega arith in
    let x : min (m * suc r) m ≡ m = omega arith in
    let y : min (p * (c * suc r)) m ≡ m = omega arith in
    x ∙ sym y

-- a product that is cut off at a bound, times another factor
saturated : (p c r m : ℕ) → min (min (p * c) m * r) m ≡ min (p * (c * r)) m
saturated p c r m =
    elim (cases_lt m (p * c)) [
      | inl h ↦ let e : min (p * c) m ≡ m = omega arith in ap (λ n. min (n * r) m) e ∙ passed p c r m h
      | inr h ↦ let e : min (p * c) m ≡ p * c = omega arith in ap (λ n. min (n * r) m) e ∙ ap (λ n. min n m) (times_assoc p c r)
    ]

pub size_next : (p q m : ℕ) (s : Scale) (ss all : List Scale) → q ≡ min (p * s.count) m → min (p * size (s ∷ ss)) m ≡ min (size all) m → min (q * size ss) m ≡ min (size all) m
unfolding size
size_next p q m s ss all e h = ap (λ n. min (n * size ss) m) e ∙ saturated p s.count (size ss) m ∙ h

pub size_begun : (m : ℕ) (ss : List Scale) → min (1 * size ss) m ≡ min (size ss) m
size_begun m ss = let e : 1 * size ss ≡ size ss = omega arith in ap (λ n. min n m) e

pub size_done : (p m : ℕ) (all : List Scale) → p ≤ m → min (p * size []) m ≡ min (size all) m → p ≡ min (size all) m
unfolding size
size_done p m all h e = let a : min (p * 1) m ≡ p = omega arith in sym a ∙ e

-- ---- one element of many

pub each_at : {X : Type 0} (P : X → Type 0) (xs : List X) (i : ℕ) (x : X) → i < length xs → x ≡ get_or xs i x → AllByRecursion P xs → P x
each_at P [] i x h e a = absurd (omega arith)
each_at P (y ∷ xs) zero x h e a = subst P (sym e) a.0
each_at P (y ∷ xs) (suc i) x h e a = each_at P xs i x (omega arith) e a.1

pub some_at : {X : Type 0} (P : X → Type 0) (xs : List X) (i : ℕ) (x : X) → i < length xs → x ≡ get_or xs i x → P x → SomeOf P xs
some_at P [] i x h e p = absurd (omega arith)
some_at P (y ∷ xs) zero x h e p = inl (subst P e p)
some_at P (y ∷ xs) (suc i) x h e p = inr (some_at P xs i x (omega arith) e p)
