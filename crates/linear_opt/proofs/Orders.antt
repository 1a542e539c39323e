-- How a linear form is to 0 where its name is a number: the number is compared with the form's critical value.
use Rattle.std.proofs.Common.{Ordering, ◌≡◌, suc, zero, ◌∙◌, sym, ap, refl, arith, Less, Equal, Greater, int_cmp, Bool, true, false, cond, ◌⊎◌, inl, inr}
use Rattle.std.proofs.Math.IntN.{ℤ, pos, negsuc, neg_ℤ, ◌+ℤ◌, ◌*ℤ◌}
use Rattle.std.specs.Prelude.{◌<ℤ◌, int_lt}
use Rattle.std.proofs.lemmas.Int.{ints}
use Rattle.exact_numbers.proofs.Order.{by_compare, mul_less}
use Rattle.exact_numbers.proofs.Ring.{mul_comm, zero_mul, neg_mul, mul_neg, mul_zero}
use Rattle.linear_theory.specs.Answer.{far_order}

-- two pairs of numbers with one order
pub same_order : (a b c d : ℤ) → (a <ℤ b → c <ℤ d) → (a ≡ b → c ≡ d) → (b <ℤ a → d <ℤ c) → int_cmp a b ≡ int_cmp c d
same_order a b c d l s m =
    by_compare a b (λ h e. e ∙ by_compare c d (λ g f. sym f) (λ g f. absurd (less_same c d (l h) g)) (λ g f. absurd (less_more c d (l h) g)))
    (λ h e. e ∙ by_compare c d (λ g f. absurd (less_same c d g (s h))) (λ g f. sym f) (λ g f. absurd (less_same d c g (sym (s h)))))
    (λ h e. e ∙ by_compare c d (λ g f. absurd (less_more c d g (m h))) (λ g f. absurd (less_same d c (m h) (sym g))) (λ g f. sym f))
  where
    less_same : (c d : ℤ) → c <ℤ d → c ≡ d → ⊥
    less_same c d h e = omega (arith, ints)

    less_more : (c d : ℤ) → c <ℤ d → d <ℤ c → ⊥
    less_more c d h e = omega (arith, ints)

-- the line rises
pub rising : (a b c n d : ℤ) → b ≡ neg_ℤ c → int_cmp (n *ℤ a) (b *ℤ d) ≡ int_cmp (a *ℤ n +ℤ c *ℤ d) (pos 0)
rising a b c n d s =
    let e = mul_comm n a in let f : b *ℤ d ≡ neg_ℤ (c *ℤ d) = ap (λ y. y *ℤ d) s ∙ neg_mul c d in
    same_order (n *ℤ a) (b *ℤ d) (a *ℤ n +ℤ c *ℤ d) (pos 0) (λ (h : (n *ℤ a) <ℤ (b *ℤ d)). omega (arith, ints)) (λ (h : n *ℤ a ≡ b *ℤ d). omega (arith, ints)) (λ (h : (b *ℤ d) <ℤ (n *ℤ a)). omega (arith, ints))

-- the line falls
pub falling : (a b c n d : ℤ) → b ≡ neg_ℤ a → int_cmp (c *ℤ d) (n *ℤ b) ≡ int_cmp (a *ℤ n +ℤ c *ℤ d) (pos 0)
falling a b c n d s =
    let e = mul_comm n a in let f : n *ℤ b ≡ neg_ℤ (n *ℤ a) = ap (λ y. n *ℤ y) s ∙ mul_neg n a in
    same_order (c *ℤ d) (n *ℤ b) (a *ℤ n +ℤ c *ℤ d) (pos 0) (λ (h : (c *ℤ d) <ℤ (n *ℤ b)). omega (arith, ints)) (λ (h : c *ℤ d ≡ n *ℤ b). omega (arith, ints)) (λ (h : (n *ℤ b) <ℤ (c *ℤ d)). omega (arith, ints))

-- the line is level
pub level : (a c n d : ℤ) → a ≡ pos 0 → pos 0 <ℤ d → int_cmp c (pos 0) ≡ int_cmp (a *ℤ n +ℤ c *ℤ d) (pos 0)
level a c n d z p =
    let e : a *ℤ n ≡ pos 0 = ap (λ y. y *ℤ n) z ∙ zero_mul n in
    let f = mul_comm d c in let g = mul_zero d in
    same_order c (pos 0) (a *ℤ n +ℤ c *ℤ d) (pos 0) (λ (h : c <ℤ pos 0). let k = mul_less d p h in omega (arith, ints)) (λ (h : c ≡ pos 0). let k = ap (λ y. y *ℤ d) h in let l = zero_mul d in omega (arith, ints))
    (λ (h : pos 0 <ℤ c). let k = mul_less d p h in omega (arith, ints))

pub far_rising : (a c : ℤ) → pos 0 <ℤ a → Less ≡ far_order a c
far_rising (pos zero) c h = absurd (omega (arith, ints))
far_rising (pos (suc n)) c h = refl
far_rising (negsuc n) c h = absurd (omega (arith, ints))

pub far_level : (a c : ℤ) → a ≡ pos 0 → int_cmp c (pos 0) ≡ far_order a c
far_level (pos zero) c h = refl
far_level (pos (suc n)) c h = absurd (omega (arith, ints))
far_level (negsuc n) c h = absurd (omega (arith, ints))

pub far_falling : (a c : ℤ) → a <ℤ pos 0 → Greater ≡ far_order a c
far_falling (pos zero) c h = absurd (omega (arith, ints))
far_falling (pos (suc n)) c h = absurd (omega (arith, ints))
far_falling (negsuc n) c h = refl

-- what the answer of equal says
pub same_so : (a b : ℤ) → int_cmp a b ≡ Equal → a ≡ b
same_so a b e = by_compare a b (λ h f. cc (e, f)) (λ h f. h) (λ h f. cc (e, f))

-- what the answers equal and greater say
pub not_less : (a b : ℤ) (r : Ordering) → r ≡ int_cmp a b → (r ≡ Equal) ⊎ (r ≡ Greater) → false ≡ int_lt a b
not_less a b r is h = go (int_lt a b) is h
  where
    go : (t : Bool) → r ≡ cond t Less (cond (int_lt b a) Greater Equal) → (r ≡ Equal) ⊎ (r ≡ Greater) → false ≡ t
    go true e (inl i) = cc
    go true e (inr i) = cc
    go false e i = refl
