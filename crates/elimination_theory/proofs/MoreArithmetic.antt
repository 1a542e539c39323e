-- Arithmetic of whole numbers that the elimination over the integers needs.
use Rattle.std.proofs.Common.{◌≡◌, ℕ, suc, zero, ◌+◌, ◌*◌, ◌<◌, ◌≤◌, ℤ, pos, negsuc, ◌+ℤ◌, ◌-ℤ◌, ◌*ℤ◌, neg_ℤ, ◌≤ℤ◌, ◌<ℤ◌, ◌⊎◌, arith, ◌-◌, inl, inr, ap, subst, unsigned_abs}
use Rattle.std.proofs.lemmas.Int.{ints}
use Rattle.exact_numbers.proofs.Ring.{mul_sub, mul_add, mul_one, neg_mul}
use Rattle.exact_numbers.proofs.Order.{at_most_mul}

-- one step down, and n steps more
pub down_suc : (k : ℤ) (step n : ℕ) → (k -ℤ pos step) -ℤ pos (n * step) ≡ k -ℤ pos (suc n * step)
down_suc k step n = omega (arith, ints)

pub less_or_at_least : (a b : ℤ) → (a <ℤ b) ⊎ (b ≤ℤ a)
less_or_at_least a b = search (arith, ints)

pub le_of_lt : (a b : ℤ) → a <ℤ b → a ≤ℤ b
le_of_lt a b h = omega (arith, ints)

pub at_most_abs : (k : ℤ) → k ≤ℤ pos (unsigned_abs k)
at_most_abs (pos n) = omega (arith, ints)
at_most_abs (negsuc n) = omega (arith, ints)

pub at_least_neg_abs : (k : ℤ) → neg_ℤ (pos (unsigned_abs k)) ≤ℤ k
at_least_neg_abs (pos n) = omega (arith, ints)
at_least_neg_abs (negsuc n) = omega (arith, ints)

many_steps : (n step : ℕ) → 0 < step → n ≤ n * step
many_steps n step h = grind arith

below_bound_by : (k u : ℤ) (a b m : ℕ) → k ≤ℤ pos a → neg_ℤ (pos b) ≤ℤ u → a + (b + 1) ≤ m → (k -ℤ pos m) <ℤ u
below_bound_by k u a b m high low many = omega (arith, ints)

-- enough steps lead below every bound
pub below_bound : (k u : ℤ) (step : ℕ) → 0 < step → (k -ℤ pos ((unsigned_abs k + (unsigned_abs u + 1)) * step)) <ℤ u
below_bound k u step h = below_bound_by k u (unsigned_abs k) (unsigned_abs u) _ (at_most_abs k) (at_least_neg_abs u) (many_steps _ step h)

-- the member of 1, .., step that differs from k by a multiple of step
pub record Residue (step : ℕ) (k : ℤ) : Type 0 where
  pub index : ℕ
  pub less : index < step
  pub steps : ℤ
  pub is : k +ℤ pos step *ℤ steps ≡ pos (index + 1)

less_or_equal : (i n : ℕ) → i ≤ n → (i < n) ⊎ (i ≡ n)
less_or_equal i n h = search arith

suc_at_most : (i n : ℕ) → i < n → i + 1 ≤ n
suc_at_most i n h = omega arith

next_same : (k m : ℤ) (i : ℕ) → k +ℤ m ≡ pos (i + 1) → (k +ℤ pos 1) +ℤ m ≡ pos ((i + 1) + 1)
next_same k m i e = omega (arith, ints)

next_first : (k n t : ℤ) (i : ℕ) → k +ℤ n *ℤ t ≡ pos (i + 1) → pos (i + 1) ≡ n → (k +ℤ pos 1) +ℤ n *ℤ (t -ℤ pos 1) ≡ pos (0 + 1)
next_first k n t i e f = let m = mul_sub n t (pos 1) in let o = mul_one n in omega (arith, ints)

first_less : (i n : ℕ) → i + 1 ≡ n → 0 < n
first_less i n e = omega arith

last_first : (n : ℕ) (k t : ℤ) → 0 < n → k +ℤ pos n *ℤ t ≡ pos (0 + 1) → (k -ℤ pos 1) +ℤ pos n *ℤ (t +ℤ pos 1) ≡ pos ((n - 1) + 1)
last_first n k t h e = let m = mul_add (pos n) t (pos 1) in let o = mul_one (pos n) in omega (arith, ints)

last_same : (k m : ℤ) (i : ℕ) → k +ℤ m ≡ pos (suc i + 1) → (k -ℤ pos 1) +ℤ m ≡ pos (i + 1)
last_same k m i e = omega (arith, ints)

at_zero : (n : ℕ) → 0 < n → pos 0 +ℤ pos n *ℤ pos 1 ≡ pos ((n - 1) + 1)
at_zero n h = omega (arith, ints)

far_below : (k u n t : ℤ) (a b : ℕ) → k ≤ℤ pos a → neg_ℤ (pos b) ≤ℤ u → pos 0 <ℤ n → pos (a + b) <ℤ t → (k +ℤ neg_ℤ n *ℤ t) <ℤ u
far_below k u n t a b high low positive far =
    let not_negative : pos 0 ≤ℤ t = omega (arith, ints) in
    let m = at_most_mul positive not_negative in
    let e = neg_mul n t in
    omega (arith, ints)

residue_next : (step : ℕ) (k : ℤ) → Residue step k → Residue step (k +ℤ pos 1)
residue_next step k r = elim (less_or_equal (r.index + 1) step (suc_at_most r.index step r.less)) [
  | inl less ↦ record { index = r.index + 1; less = less; steps = r.steps; is = next_same k (pos step *ℤ r.steps) r.index r.is }
  | inr same ↦ record {
    index = 0;
    less = first_less r.index step same;
    steps = r.steps -ℤ pos 1;
    is = next_first k (pos step) r.steps r.index r.is (ap pos same);
  }
]

residue_last : (step : ℕ) (k : ℤ) → (index : ℕ) → index < step → (steps : ℤ) → k +ℤ pos step *ℤ steps ≡ pos (index + 1) → Residue step (k -ℤ pos 1)
residue_last step k zero less steps is = record {
  index = step - 1;
  less = omega arith;
  steps = steps +ℤ pos 1;
  is = last_first step k steps less is;
}
residue_last step k (suc i) less steps is = record {
  index = i;
  less = omega arith;
  steps = steps;
  is = last_same k (pos step *ℤ steps) i is;
}

-- there is such a member
pub residue : (step : ℕ) → 0 < step → (k : ℤ) → Residue step k
residue step positive (pos zero) = record { index = step - 1; less = omega arith; steps = pos 1; is = at_zero step positive }
residue step positive (pos (suc n)) = subst (Residue step) (omega (arith, ints)) (residue_next step (pos n) (residue step positive (pos n)))
residue step positive (negsuc zero) =
    subst (Residue step) (omega (arith, ints)) (residue_last step (pos 0) (step - 1) (omega arith) (pos 1) (at_zero step positive))
residue step positive (negsuc (suc n)) =
    let r : Residue step (negsuc n) = residue step positive (negsuc n) in
    subst (Residue step) (omega (arith, ints)) (residue_last step (negsuc n) r.index r.less r.steps r.is)

-- so many steps down from k that every further number of steps leads below u
pub steps_far : (k u : ℤ) (step : ℕ) → 0 < step → (v : ℤ) × ((t : ℤ) → v <ℤ t → (k +ℤ neg_ℤ (pos step) *ℤ t) <ℤ u)
steps_far k u step positive = (
  pos (unsigned_abs k + unsigned_abs u),
  λ t far. far_below k u (pos step) t (unsigned_abs k) (unsigned_abs u) (at_most_abs k) (at_least_neg_abs u) (omega (arith, ints)) far,
)
