-- Fractions compared by cross products: n/d is before m/c where n c < m d.
use Rattle.std.proofs.Common.{◌≡◌, ap, ◌∙◌, arith}
use Rattle.std.proofs.Math.IntN.{ℤ, pos, ◌*ℤ◌}
use Rattle.std.specs.Prelude.{◌<ℤ◌, ◌≤ℤ◌}
use Rattle.std.proofs.lemmas.Int.{ints}
use Rattle.exact_numbers.proofs.Ring.{mul_left_comm, mul_comm}
use Rattle.exact_numbers.proofs.Order.{mul_less, mul_at_most, cancel_less, cancel_at_most}
use Rattle.formula_laws.proofs.Relations.{weaken}

-- the factor of a product of three that is to be cancelled comes first
front : (f a d : ℤ) → f *ℤ (a *ℤ d) ≡ d *ℤ (a *ℤ f)
front f a d = mul_left_comm f a d ∙ ap (λ z. a *ℤ z) (mul_comm f d) ∙ mul_left_comm a d f

swap : (b c f : ℤ) → b *ℤ (c *ℤ f) ≡ f *ℤ (c *ℤ b)
swap b c f = front b c f

-- a/b ≤ c/d and c/d < e/f
pub at_most_less : (a b c d e f : ℤ) → pos 0 <ℤ b → pos 0 <ℤ d → pos 0 <ℤ f → (a *ℤ d) ≤ℤ (c *ℤ b) → (c *ℤ f) <ℤ (e *ℤ d) → (a *ℤ f) <ℤ (e *ℤ b)
at_most_less a b c d e f pb pd pf h k =
    let m = mul_at_most f (weaken pf) h in
    let n = mul_less b pb k in
    let x = front f a d in let y = front b c f in let z = front b e d in
    let g : (d *ℤ (a *ℤ f)) <ℤ (d *ℤ (e *ℤ b)) = omega (arith, ints) in
    cancel_less d pd g

pub less_at_most : (a b c d e f : ℤ) → pos 0 <ℤ b → pos 0 <ℤ d → pos 0 <ℤ f → (a *ℤ d) <ℤ (c *ℤ b) → (c *ℤ f) ≤ℤ (e *ℤ d) → (a *ℤ f) <ℤ (e *ℤ b)
less_at_most a b c d e f pb pd pf h k =
    let m = mul_less f pf h in
    let n = mul_at_most b (weaken pb) k in
    let x = front f a d in let y = front b c f in let z = front b e d in
    let g : (d *ℤ (a *ℤ f)) <ℤ (d *ℤ (e *ℤ b)) = omega (arith, ints) in
    cancel_less d pd g

pub at_most_at_most : (a b c d e f : ℤ) → pos 0 <ℤ b → pos 0 <ℤ d → pos 0 <ℤ f → (a *ℤ d) ≤ℤ (c *ℤ b) → (c *ℤ f) ≤ℤ (e *ℤ d) → (a *ℤ f) ≤ℤ (e *ℤ b)
at_most_at_most a b c d e f pb pd pf h k =
    let m = mul_at_most f (weaken pf) h in
    let n = mul_at_most b (weaken pb) k in
    let x = front f a d in let y = front b c f in let z = front b e d in
    let g : (d *ℤ (a *ℤ f)) ≤ℤ (d *ℤ (e *ℤ b)) = omega (arith, ints) in
    cancel_at_most d pd g

pub less_less : (a b c d e f : ℤ) → pos 0 <ℤ b → pos 0 <ℤ d → pos 0 <ℤ f → (a *ℤ d) <ℤ (c *ℤ b) → (c *ℤ f) <ℤ (e *ℤ d) → (a *ℤ f) <ℤ (e *ℤ b)
less_less a b c d e f pb pd pf h k = let w : (c *ℤ f) ≤ℤ (e *ℤ d) = omega (arith, ints) in less_at_most a b c d e f pb pd pf h w
