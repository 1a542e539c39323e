-- The laws of a ring on ℤ. `simp ring (omega (arith, ints))` proves an equation or a comparison of polynomials.
use Rattle.std.proofs.Common.{◌≡◌, ap, sym, ◌∙◌, arith}
use Rattle.std.proofs.Math.IntN.{ℤ, pos, neg_ℤ, ◌+ℤ◌, ◌-ℤ◌, ◌*ℤ◌, *ℤ_comm, suc_ℤ-*ℤ, pred_ℤ-*ℤ, zero-*ℤ, +ℤ_idl, +ℤ_one, -ℤ_one, ℤ_ind}
use Rattle.std.proofs.lemmas.Int.{ints}

pub mul_comm : (a b : ℤ) → a *ℤ b ≡ b *ℤ a
mul_comm = *ℤ_comm

next_mul : (a k : ℤ) → (a +ℤ pos 1) *ℤ k ≡ a *ℤ k +ℤ k
next_mul a k = ap (λ x. x *ℤ k) (+ℤ_one a) ∙ suc_ℤ-*ℤ a k

last_mul : (a k : ℤ) → (a -ℤ pos 1) *ℤ k ≡ a *ℤ k -ℤ k
last_mul a k = ap (λ x. x *ℤ k) (-ℤ_one a) ∙ pred_ℤ-*ℤ a k

-- what holds at 0, and at a neighbour of a where it holds at a, holds everywhere
by_steps : (P : ℤ → Type 0) → P (pos 0) → ((a : ℤ) → P a → P (a +ℤ pos 1)) → ((a : ℤ) → P a → P (a -ℤ pos 1)) → (a : ℤ) → P a
by_steps P z up down a = ℤ_ind P z (λ n. up (pos n)) (λ n. down (neg_ℤ (pos n))) a

add_mul_next : (a b k : ℤ) → (a +ℤ b) *ℤ k ≡ a *ℤ k +ℤ b *ℤ k → ((a +ℤ pos 1) +ℤ b) *ℤ k ≡ (a +ℤ pos 1) *ℤ k +ℤ b *ℤ k
add_mul_next a b k h =
    let e : (a +ℤ pos 1) +ℤ b ≡ (a +ℤ b) +ℤ pos 1 = omega (arith, ints) in
    let f = ap (λ x. x *ℤ k) e ∙ next_mul (a +ℤ b) k in
    let g = next_mul a k in
    omega (arith, ints)

add_mul_last : (a b k : ℤ) → (a +ℤ b) *ℤ k ≡ a *ℤ k +ℤ b *ℤ k → ((a -ℤ pos 1) +ℤ b) *ℤ k ≡ (a -ℤ pos 1) *ℤ k +ℤ b *ℤ k
add_mul_last a b k h =
    let e : (a -ℤ pos 1) +ℤ b ≡ (a +ℤ b) -ℤ pos 1 = omega (arith, ints) in
    let f = ap (λ x. x *ℤ k) e ∙ last_mul (a +ℤ b) k in
    let g = last_mul a k in
    omega (arith, ints)

pub add_mul : (a b k : ℤ) → (a +ℤ b) *ℤ k ≡ a *ℤ k +ℤ b *ℤ k
add_mul a b k =
    by_steps (λ x. (x +ℤ b) *ℤ k ≡ x *ℤ k +ℤ b *ℤ k)
    (let e = ap (λ x. x *ℤ k) (+ℤ_idl b) in let f = zero-*ℤ k in omega (arith, ints))
    (λ x h. add_mul_next x b k h)
    (λ x h. add_mul_last x b k h)
    a

pub mul_add : (k a b : ℤ) → k *ℤ (a +ℤ b) ≡ k *ℤ a +ℤ k *ℤ b
mul_add k a b = let e = add_mul a b k in let f = *ℤ_comm k (a +ℤ b) in let g = *ℤ_comm k a in let h = *ℤ_comm k b in omega (arith, ints)

pub neg_mul : (a b : ℤ) → neg_ℤ a *ℤ b ≡ neg_ℤ (a *ℤ b)
neg_mul a b =
    let z : neg_ℤ a +ℤ a ≡ pos 0 = omega (arith, ints) in
    let e = sym (add_mul (neg_ℤ a) a b) ∙ ap (λ x. x *ℤ b) z ∙ zero-*ℤ b in
    omega (arith, ints)

pub mul_neg : (a b : ℤ) → a *ℤ neg_ℤ b ≡ neg_ℤ (a *ℤ b)
mul_neg a b = *ℤ_comm a (neg_ℤ b) ∙ neg_mul b a ∙ ap neg_ℤ (*ℤ_comm b a)

pub sub_mul : (a b k : ℤ) → (a -ℤ b) *ℤ k ≡ a *ℤ k -ℤ b *ℤ k
sub_mul a b k = add_mul a (neg_ℤ b) k ∙ ap (λ x. a *ℤ k +ℤ x) (neg_mul b k)

pub mul_sub : (k a b : ℤ) → k *ℤ (a -ℤ b) ≡ k *ℤ a -ℤ k *ℤ b
mul_sub k a b = mul_add k a (neg_ℤ b) ∙ ap (λ x. k *ℤ a +ℤ x) (mul_neg k b)

pub mul_assoc : (a b c : ℤ) → (a *ℤ b) *ℤ c ≡ a *ℤ (b *ℤ c)
mul_assoc a b c =
    by_steps (λ x. (x *ℤ b) *ℤ c ≡ x *ℤ (b *ℤ c))
    (ap (λ x. x *ℤ c) (zero-*ℤ b) ∙ zero-*ℤ c ∙ sym (zero-*ℤ (b *ℤ c)))
    (λ x h. ap (λ y. y *ℤ c) (next_mul x b) ∙ add_mul (x *ℤ b) b c ∙ ap (λ y. y +ℤ b *ℤ c) h ∙ sym (next_mul x (b *ℤ c)))
    (λ x h. ap (λ y. y *ℤ c) (last_mul x b) ∙ sub_mul (x *ℤ b) b c ∙ ap (λ y. y -ℤ b *ℤ c) h ∙ sym (last_mul x (b *ℤ c)))
    a

pub mul_left_comm : (a b c : ℤ) → a *ℤ (b *ℤ c) ≡ b *ℤ (a *ℤ c)
mul_left_comm a b c = sym (mul_assoc a b c) ∙ ap (λ x. x *ℤ c) (*ℤ_comm a b) ∙ mul_assoc b a c

pub ruleset ring = (mul_add, add_mul, mul_neg, neg_mul, mul_assoc, mul_comm, mul_left_comm)

pub zero_mul : (k : ℤ) → pos 0 *ℤ k ≡ pos 0
zero_mul k = zero-*ℤ k

pub one_mul : (k : ℤ) → pos 1 *ℤ k ≡ k
one_mul k = let e = next_mul (pos 0) k in let f = zero-*ℤ k in omega (arith, ints)

pub mul_zero : (k : ℤ) → k *ℤ pos 0 ≡ pos 0
mul_zero k = *ℤ_comm k (pos 0) ∙ zero-*ℤ k

pub mul_one : (k : ℤ) → k *ℤ pos 1 ≡ k
mul_one k = *ℤ_comm k (pos 1) ∙ one_mul k

-- tries of the tactic
square_of_sum : (a b c : ℤ) → (a +ℤ b) *ℤ (a -ℤ b) *ℤ c ≡ a *ℤ a *ℤ c -ℤ b *ℤ b *ℤ c
square_of_sum a b c = simp ring (omega (arith, ints))
