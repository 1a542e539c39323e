-- The values of linear forms at points.
use Rattle.std.proofs.Common.{◌≡◌, ℕ, ◌*◌, Bool, true, false, List, [], ◌∷◌, ◌++◌, ap, sym, subst, refl, arith, nat_eq, if◌then◌else◌, eqb-true}
use Rattle.std.proofs.Math.IntN.{ℤ, pos, ◌+ℤ◌, ◌*ℤ◌}
use Rattle.std.proofs.lemmas.Int.{ints}
use Rattle.exact_numbers.proofs.Ring.{ring, zero_mul, mul_zero}
use Rattle.logic_meaning.specs.Point.{Point, move}
use Rattle.formula_laws.specs.Points.{finer}
use Rattle.logic_meaning.specs.Form.{Form, Term, total, value, multiple, others, scaled, coefficient, without, scale, combine, plus}

pub below_move : {N : Type 0} (same : N → N → Bool) (p : Point N) (x : N) (k : ℤ) (m : ℕ) → (move same p x k m).below ≡ p.below * m
unfolding move
below_move same p x k m = refl

pub at_move : {N : Type 0} (same : N → N → Bool) (p : Point N) (x : N) (k : ℤ) (m : ℕ) (y : N) → (move same p x k m).at y ≡ (if same x y then k else pos m *ℤ p.at y)
unfolding move
at_move same p x k m y = refl

-- one term more
one_more : (t k r m s u : ℤ) → r ≡ s *ℤ k +ℤ u *ℤ m → t *ℤ k +ℤ r ≡ (t +ℤ s) *ℤ k +ℤ u *ℤ m
one_more t k r m s u e = simp ring (omega (arith, ints))

one_other : (t a k r m s u : ℤ) → r ≡ s *ℤ k +ℤ u *ℤ m → t *ℤ (m *ℤ a) +ℤ r ≡ s *ℤ k +ℤ (t *ℤ a +ℤ u) *ℤ m
one_other t a k r m s u e = simp ring (omega (arith, ints))

total_move : (ts : List Term) (at : ℕ → ℤ) (x : ℕ) (k : ℤ) (m : ℤ) → total ts (λ y. if nat_eq x y then k else m *ℤ at y) ≡ multiple x ts *ℤ k +ℤ total (others x ts) at *ℤ m
total_move [] at x k m = let z = zero_mul k in let w = zero_mul m in omega (arith, ints)
total_move (t ∷ ts) at x k m = go (nat_eq x t.name) (total_move ts at x k m)
  where
    go : (b : Bool) → total ts (λ y. if nat_eq x y then k else m *ℤ at y) ≡ multiple x ts *ℤ k +ℤ total (others x ts) at *ℤ m →
        t.times *ℤ (if b then k else m *ℤ at t.name) +ℤ total ts (λ y. if nat_eq x y then k else m *ℤ at y) ≡ (if b then t.times +ℤ multiple x ts else multiple x ts) *ℤ k +ℤ total (if b then others x ts else t ∷ others x ts) at *ℤ m
    go true h = one_more t.times k _ m (multiple x ts) (total (others x ts) at) h
    go false h = one_other t.times (at t.name) k _ m (multiple x ts) (total (others x ts) at) h

add_constant : (r a k u m c b mb : ℤ) → r ≡ a *ℤ k +ℤ u *ℤ m → mb ≡ b *ℤ m → r +ℤ c *ℤ mb ≡ a *ℤ k +ℤ (u +ℤ c *ℤ b) *ℤ m
add_constant r a k u m c b mb e f = let g = simp ring at (ap (λ z. c *ℤ z) f) in simp ring (omega (arith, ints, g))

pub pos_mul : (a b : ℕ) → pos (a * b) ≡ pos a *ℤ pos b
pos_mul a b = omega (arith, ints)

-- the value at a moved point: linear in the new number
pub value_move : (f : Form) (p : Point ℕ) (x : ℕ) (k : ℤ) (m : ℕ) → value f (move nat_eq p x k m) ≡ coefficient x f *ℤ k +ℤ value (without x f) p *ℤ pos m
unfolding value move coefficient without
value_move f p x k m = add_constant _ (multiple x f.terms) k (total (others x f.terms) p.at) (pos m) f.constant (pos p.below) _ (total_move f.terms p.at x k (pos m)) (pos_mul p.below m)

split_more : (t a r s u : ℤ) → r ≡ s *ℤ a +ℤ u → t *ℤ a +ℤ r ≡ (t +ℤ s) *ℤ a +ℤ u
split_more t a r s u e = simp ring (omega (arith, ints))

split_other : (t b r s a u : ℤ) → r ≡ s *ℤ a +ℤ u → t *ℤ b +ℤ r ≡ s *ℤ a +ℤ (t *ℤ b +ℤ u)
split_other t b r s a u e = omega (arith, ints)

eqb_same : (x y : ℕ) → nat_eq x y ≡ true → x ≡ y
eqb_same = eqb-true

pub total_split : (ts : List Term) (at : ℕ → ℤ) (x : ℕ) → total ts at ≡ multiple x ts *ℤ at x +ℤ total (others x ts) at
total_split [] at x = let z = zero_mul (at x) in omega (arith, ints)
total_split (t ∷ ts) at x = go (nat_eq x t.name) refl (total_split ts at x)
  where
    go : (b : Bool) → nat_eq x t.name ≡ b → total ts at ≡ multiple x ts *ℤ at x +ℤ total (others x ts) at →
        t.times *ℤ at t.name +ℤ total ts at ≡ (if b then t.times +ℤ multiple x ts else multiple x ts) *ℤ at x +ℤ total (if b then others x ts else t ∷ others x ts) at
    go true e h = subst (λ (n : ℕ). t.times *ℤ at n +ℤ total ts at ≡ (t.times +ℤ multiple x ts) *ℤ at x +ℤ total (others x ts) at) (eqb_same x t.name e) (split_more t.times (at x) _ (multiple x ts) (total (others x ts) at) h)
    go false e h = split_other t.times (at t.name) _ (multiple x ts) (at x) (total (others x ts) at) h

-- the value is that of the terms of one name and of the rest
pub value_split : (f : Form) (p : Point ℕ) (x : ℕ) → value f p ≡ coefficient x f *ℤ p.at x +ℤ value (without x f) p
unfolding value coefficient without
value_split f p x = let h = total_split f.terms p.at x in omega (arith, ints)

total_append : (ts us : List Term) (at : ℕ → ℤ) → total (ts ++ us) at ≡ total ts at +ℤ total us at
total_append [] us at = omega (arith, ints)
total_append (t ∷ ts) us at = let h = total_append ts us at in omega (arith, ints)

scaled_step : (a t b r s : ℤ) → r ≡ a *ℤ s → (a *ℤ t) *ℤ b +ℤ r ≡ a *ℤ (t *ℤ b +ℤ s)
scaled_step a t b r s e = simp ring (omega (arith, ints))

total_scaled : (a : ℤ) (ts : List Term) (at : ℕ → ℤ) → total (scaled a ts) at ≡ a *ℤ total ts at
total_scaled a [] at = sym (mul_zero a)
total_scaled a (t ∷ ts) at = scaled_step a t.times (at t.name) _ (total ts at) (total_scaled a ts at)

scale_constant : (a c b s r : ℤ) → r ≡ a *ℤ s → r +ℤ (a *ℤ c) *ℤ b ≡ a *ℤ (s +ℤ c *ℤ b)
scale_constant a c b s r e = simp ring (omega (arith, ints))

pub value_scale : (a : ℤ) (f : Form) (p : Point ℕ) → value (scale a f) p ≡ a *ℤ value f p
unfolding value scale
value_scale a f p = scale_constant a f.constant (pos p.below) (total f.terms p.at) _ (total_scaled a f.terms p.at)

join_constants : (a b s t c d w r : ℤ) → r ≡ a *ℤ s +ℤ b *ℤ t → r +ℤ (a *ℤ c +ℤ b *ℤ d) *ℤ w ≡ a *ℤ (s +ℤ c *ℤ w) +ℤ b *ℤ (t +ℤ d *ℤ w)
join_constants a b s t c d w r e = simp ring (omega (arith, ints))

pub value_combine : (a : ℤ) (f : Form) (b : ℤ) (g : Form) (p : Point ℕ) → value (combine a f b g) p ≡ a *ℤ value f p +ℤ b *ℤ value g p
unfolding value combine
value_combine a f b g p =
    let h = total_append (scaled a f.terms) (scaled b g.terms) p.at in
    let i = total_scaled a f.terms p.at in
    let j = total_scaled b g.terms p.at in
    join_constants a b (total f.terms p.at) (total g.terms p.at) f.constant g.constant (pos p.below) _ (omega (arith, ints))

add_to_constant : (r c a w : ℤ) → r +ℤ (c +ℤ a) *ℤ w ≡ (r +ℤ c *ℤ w) +ℤ a *ℤ w
add_to_constant r c a w = simp ring (omega (arith, ints))

pub value_plus : (f : Form) (a : ℤ) (p : Point ℕ) → value (plus f a) p ≡ value f p +ℤ a *ℤ pos p.below
unfolding value plus
value_plus f a p = add_to_constant (total f.terms p.at) f.constant a (pos p.below)

finer_step : (t m b r s : ℤ) → r ≡ m *ℤ s → t *ℤ (m *ℤ b) +ℤ r ≡ m *ℤ (t *ℤ b +ℤ s)
finer_step t m b r s e = simp ring (omega (arith, ints))

total_finer : (ts : List Term) (at : ℕ → ℤ) (m : ℤ) → total ts (λ y. m *ℤ at y) ≡ m *ℤ total ts at
total_finer [] at m = sym (mul_zero m)
total_finer (t ∷ ts) at m = finer_step t.times m (at t.name) _ (total ts at) (total_finer ts at m)

finer_constant : (m c b bm r s : ℤ) → r ≡ m *ℤ s → bm ≡ b *ℤ m → r +ℤ c *ℤ bm ≡ m *ℤ (s +ℤ c *ℤ b)
finer_constant m c b bm r s e f = let g = simp ring at (ap (λ z. c *ℤ z) f) in simp ring (omega (arith, ints, g))

-- over a finer denominator the numerator grows by the same factor
pub value_finer : (f : Form) (p : Point ℕ) (m : ℕ) → value f (finer p m) ≡ pos m *ℤ value f p
unfolding value finer
value_finer f p m = finer_constant (pos m) f.constant (pos p.below) _ _ (total f.terms p.at) (total_finer f.terms p.at (pos m)) (pos_mul p.below m)
