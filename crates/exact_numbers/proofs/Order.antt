-- The order of ℤ: products under `<ℤ` and `≤ℤ`, cancellation, rules by cases, and `int_cmp`.
use Rattle.std.proofs.Common.{Ordering, Less, Equal, Greater, int_cmp, ◌≡◌, ◌<◌, ◌⊎◌, inl, inr, ap, sym, ◌∙◌, subst, arith}
use Rattle.std.proofs.Math.IntN.{ℤ, pos, negsuc, neg_ℤ, ◌+ℤ◌, ◌-ℤ◌, ◌*ℤ◌}
use Rattle.std.specs.Prelude.{◌<ℤ◌, ◌≤ℤ◌}
use Rattle.std.specs.Ordering.{MatchOrdering, ordering_reverse}
use Rattle.std.specs.Cmp.{int_ranks, int_cmp_is}
use Rattle.std.proofs.Math.Nat.{mul-pos}
use Rattle.std.proofs.lemmas.Int.{ints, by_lt_z}
use Rattle.exact_numbers.proofs.Ring.{mul_sub, mul_zero, zero_mul, sub_mul, neg_mul}

-- ---- rules by cases

pub by_less : {P : Type 0} (a b : ℤ) → (a <ℤ b → P) → (b ≤ℤ a → P) → P
by_less = by_lt_z

-- one of the three orders of two numbers
pub by_order : {P : Type 0} (a b : ℤ) → (a <ℤ b → P) → (a ≡ b → P) → (b <ℤ a → P) → P
by_order a b less same more =
    by_lt_z a b less (λ (h : b ≤ℤ a). by_lt_z b a more (λ (k : a ≤ℤ b). same (omega (arith, ints))))

-- a number is 0 or not
pub by_zero : {P : Type 0} (a : ℤ) → (a ≡ pos 0 → P) → (¬ (a ≡ pos 0) → P) → P
by_zero a zero other =
    by_order a (pos 0) (λ (h : a <ℤ pos 0). other (λ (e : a ≡ pos 0). omega (arith, ints))) zero (λ (h : pos 0 <ℤ a). other (λ (e : a ≡ pos 0). omega (arith, ints)))

-- ---- products

pub mul_positive : {a b : ℤ} → pos 0 <ℤ a → pos 0 <ℤ b → pos 0 <ℤ (a *ℤ b)
mul_positive {a = pos a} {b = pos b} h k =
    let ha : 0 < a = omega (arith, ints) in let hb : 0 < b = omega (arith, ints) in let p = mul-pos ha hb in omega (arith, ints)
mul_positive {a = pos a} {b = negsuc b} h k = absurd k.lt
mul_positive {a = negsuc a} {b = pos b} h k = absurd h.lt
mul_positive {a = negsuc a} {b = negsuc b} h k = absurd h.lt

pub mul_less : {a b : ℤ} (k : ℤ) → pos 0 <ℤ k → a <ℤ b → (k *ℤ a) <ℤ (k *ℤ b)
mul_less {a} {b} k p h =
    let d : pos 0 <ℤ (b -ℤ a) = omega (arith, ints) in
    let m = mul_positive p d in
    let e = mul_sub k b a in
    let x = subst (λ (z : ℤ). pos 0 <ℤ z) e m in
    omega (arith, ints)

pub mul_at_most : {a b : ℤ} (k : ℤ) → pos 0 ≤ℤ k → a ≤ℤ b → (k *ℤ a) ≤ℤ (k *ℤ b)
mul_at_most {a} {b} k p h =
    by_order (pos 0) k
    (λ (pk : pos 0 <ℤ k). by_order a b
    (λ (l : a <ℤ b). let m = mul_less k pk l in omega (arith, ints))
    (λ (e : a ≡ b). let f = ap (λ z. k *ℤ z) e in omega (arith, ints))
    (λ (m : b <ℤ a). absurd (omega (arith, ints))))
    (λ (z : pos 0 ≡ k). let f = ap (λ y. y *ℤ a) z in let g = ap (λ y. y *ℤ b) z in let u = zero_mul a in let v = zero_mul b in omega (arith, ints))
    (λ (n : k <ℤ pos 0). absurd (omega (arith, ints)))

pub mul_not_negative : {a b : ℤ} → pos 0 ≤ℤ a → pos 0 ≤ℤ b → pos 0 ≤ℤ (a *ℤ b)
mul_not_negative {a} {b} h k = let m = mul_at_most a h k in let z = mul_zero a in omega (arith, ints)

pub mul_negative : {a b : ℤ} → a <ℤ pos 0 → pos 0 <ℤ b → (a *ℤ b) <ℤ pos 0
mul_negative {a} {b} h k =
    let n : pos 0 <ℤ neg_ℤ a = omega (arith, ints) in
    let m = mul_positive n k in
    let e = neg_mul a b in
    let x = subst (λ (z : ℤ). pos 0 <ℤ z) e m in
    omega (arith, ints)

-- a factor of at least 1 makes no smaller
pub at_most_mul : {a b : ℤ} → pos 0 <ℤ a → pos 0 ≤ℤ b → b ≤ℤ (a *ℤ b)
at_most_mul {a} {b} h k =
    let n : pos 0 ≤ℤ (a -ℤ pos 1) = omega (arith, ints) in
    let m = mul_not_negative n k in
    let e = sub_mul a (pos 1) b in
    let x = subst (λ (z : ℤ). pos 0 ≤ℤ z) e m in
    omega (arith, ints)

-- ---- cancellation

pub cancel_less : {a b : ℤ} (k : ℤ) → pos 0 <ℤ k → (k *ℤ a) <ℤ (k *ℤ b) → a <ℤ b
cancel_less {a} {b} k p h =
    by_less a b (λ l. l) (λ (m : b ≤ℤ a). let q : pos 0 ≤ℤ k = omega (arith, ints) in let x = mul_at_most k q m in absurd (omega (arith, ints)))

pub cancel_at_most : {a b : ℤ} (k : ℤ) → pos 0 <ℤ k → (k *ℤ a) ≤ℤ (k *ℤ b) → a ≤ℤ b
cancel_at_most {a} {b} k p h =
    by_less b a (λ (m : b <ℤ a). let x = mul_less k p m in absurd (omega (arith, ints))) (λ l. l)

pub cancel_positive : (k : ℤ) {a b : ℤ} → pos 0 <ℤ k → k *ℤ a ≡ k *ℤ b → a ≡ b
cancel_positive k {a} {b} p e =
    by_order a b
    (λ (l : a <ℤ b). let x = mul_less k p l in absurd (omega (arith, ints)))
    (λ s. s)
    (λ (m : b <ℤ a). let x = mul_less k p m in absurd (omega (arith, ints)))

-- the sign of a factor from the sign of the product
pub factor_positive : {a b : ℤ} → pos 0 <ℤ a → pos 0 <ℤ (a *ℤ b) → pos 0 <ℤ b
factor_positive {a} {b} p h = let z = mul_zero a in let q : (a *ℤ pos 0) <ℤ (a *ℤ b) = omega (arith, ints) in cancel_less a p q

pub cancel : (k : ℤ) {a b : ℤ} → ¬ (k ≡ pos 0) → k *ℤ a ≡ k *ℤ b → a ≡ b
cancel k {a} {b} n e =
    by_order k (pos 0)
    (λ (l : k <ℤ pos 0).
    let p : pos 0 <ℤ neg_ℤ k = omega (arith, ints) in
    let f : neg_ℤ k *ℤ a ≡ neg_ℤ k *ℤ b = neg_mul k a ∙ ap neg_ℤ e ∙ sym (neg_mul k b) in
    cancel_positive (neg_ℤ k) p f)
    (λ z. absurd (n z))
    (λ p. cancel_positive k p e)

-- a product is 0 only where a factor is
pub zero_product : (a b : ℤ) → a *ℤ b ≡ pos 0 → (a ≡ pos 0) ⊎ (b ≡ pos 0)
zero_product a b e =
    by_zero a (λ z. inl z) (λ n. inr (cancel a n (e ∙ sym (mul_zero a))))

-- ---- `int_cmp`

-- a split on what `int_cmp` answers
pub by_compare : {P : Type 0} (a b : ℤ) → (a <ℤ b → int_cmp a b ≡ Less → P) → (a ≡ b → int_cmp a b ≡ Equal → P) → (b <ℤ a → int_cmp a b ≡ Greater → P) → P
by_compare a b less same more =
    by_order a b (λ h. less h (sym (int_cmp_is a b Less h))) (λ h. same h (sym (int_cmp_is a b Equal h))) (λ h. more h (sym (int_cmp_is a b Greater h)))

-- what an answer of `int_cmp` says
pub compared : (a b : ℤ) (o : Ordering) → int_cmp a b ≡ o → MatchOrdering o (a <ℤ b) (a ≡ b) (b <ℤ a)
compared a b o e = subst (λ (r : Ordering). MatchOrdering r (a <ℤ b) (a ≡ b) (b <ℤ a)) e (int_ranks a b)

pub compare_less : {a b : ℤ} → a <ℤ b → int_cmp a b ≡ Less
compare_less {a} {b} h = sym (int_cmp_is a b Less h)

pub compare_same : {a b : ℤ} → a ≡ b → int_cmp a b ≡ Equal
compare_same {a} {b} h = sym (int_cmp_is a b Equal h)

pub compare_more : {a b : ℤ} → b <ℤ a → int_cmp a b ≡ Greater
compare_more {a} {b} h = sym (int_cmp_is a b Greater h)

pub compare_mul : (k a b : ℤ) → pos 0 <ℤ k → int_cmp (k *ℤ a) (k *ℤ b) ≡ int_cmp a b
compare_mul k a b p =
    by_compare a b
    (λ h e. compare_less (mul_less k p h) ∙ sym e)
    (λ h e. compare_same (ap (λ z. k *ℤ z) h) ∙ sym e)
    (λ h e. compare_more (mul_less k p h) ∙ sym e)

pub compare_neg : (a b : ℤ) → int_cmp (neg_ℤ a) (neg_ℤ b) ≡ int_cmp b a
compare_neg a b =
    by_compare b a
    (λ (h : b <ℤ a) e. let l : neg_ℤ a <ℤ neg_ℤ b = omega (arith, ints) in compare_less l ∙ sym e)
    (λ (h : b ≡ a) e. compare_same (ap neg_ℤ (sym h)) ∙ sym e)
    (λ (h : a <ℤ b) e. let l : neg_ℤ b <ℤ neg_ℤ a = omega (arith, ints) in compare_more l ∙ sym e)

pub compare_add : (a b c : ℤ) → int_cmp (a +ℤ c) (b +ℤ c) ≡ int_cmp a b
compare_add a b c =
    by_compare a b
    (λ (h : a <ℤ b) e. let l : (a +ℤ c) <ℤ (b +ℤ c) = omega (arith, ints) in compare_less l ∙ sym e)
    (λ (h : a ≡ b) e. compare_same (ap (λ z. z +ℤ c) h) ∙ sym e)
    (λ (h : b <ℤ a) e. let l : (b +ℤ c) <ℤ (a +ℤ c) = omega (arith, ints) in compare_more l ∙ sym e)

pub compare_sub : (a b : ℤ) → int_cmp (a -ℤ b) (pos 0) ≡ int_cmp a b
compare_sub a b =
    let z : b -ℤ b ≡ pos 0 = omega (arith, ints) in
    ap (λ x. int_cmp (a -ℤ b) x) (sym z) ∙ compare_add a b (neg_ℤ b)

pub compare_swap : (a b : ℤ) → int_cmp a b ≡ ordering_reverse (int_cmp b a)
compare_swap a b =
    by_compare b a
    (λ h e. compare_more h ∙ ap ordering_reverse (sym e))
    (λ h e. compare_same (sym h) ∙ ap ordering_reverse (sym e))
    (λ h e. compare_less h ∙ ap ordering_reverse (sym e))
