-- The coefficients of combined forms.
use Rattle.std.proofs.Common.{◌≡◌, ℕ, Bool, true, false, List, [], ◌∷◌, ◌++◌, sym, refl, arith, nat_eq, if◌then◌else◌}
use Rattle.std.proofs.Math.IntN.{ℤ, pos, ◌+ℤ◌, ◌*ℤ◌}
use Rattle.std.proofs.lemmas.Bool.{eq-eqb}
use Rattle.std.proofs.lemmas.Int.{ints}
use Rattle.exact_numbers.proofs.Ring.{mul_zero, mul_add}
use Rattle.logic_meaning.specs.Form.{Form, Term, multiple, scaled, coefficient, without, scale, combine, plus}
use Rattle.formula_laws.proofs.FreeNames.{multiple_others}

multiple_append : (x : ℕ) (ts us : List Term) → multiple x (ts ++ us) ≡ multiple x ts +ℤ multiple x us
multiple_append x [] us = omega (arith, ints)
multiple_append x (t ∷ ts) us = go (nat_eq x t.name) (multiple_append x ts us)
  where
    go : (b : Bool) → multiple x (ts ++ us) ≡ multiple x ts +ℤ multiple x us →
        (if b then t.times +ℤ multiple x (ts ++ us) else multiple x (ts ++ us)) ≡ (if b then t.times +ℤ multiple x ts else multiple x ts) +ℤ multiple x us
    go true h = omega (arith, ints)
    go false h = h

multiple_scaled : (x : ℕ) (a : ℤ) (ts : List Term) → multiple x (scaled a ts) ≡ a *ℤ multiple x ts
multiple_scaled x a [] = sym (mul_zero a)
multiple_scaled x a (t ∷ ts) = go (nat_eq x t.name) (multiple_scaled x a ts)
  where
    go : (b : Bool) → multiple x (scaled a ts) ≡ a *ℤ multiple x ts →
        (if b then a *ℤ t.times +ℤ multiple x (scaled a ts) else multiple x (scaled a ts)) ≡ a *ℤ (if b then t.times +ℤ multiple x ts else multiple x ts)
    go true h = let e = mul_add a t.times (multiple x ts) in omega (arith, ints)
    go false h = h

pub coefficient_combine : (x : ℕ) (a : ℤ) (f : Form) (b : ℤ) (g : Form) → coefficient x (combine a f b g) ≡ a *ℤ coefficient x f +ℤ b *ℤ coefficient x g
unfolding coefficient combine
coefficient_combine x a f b g =
    let h = multiple_append x (scaled a f.terms) (scaled b g.terms) in
    let i = multiple_scaled x a f.terms in let j = multiple_scaled x b g.terms in
    omega (arith, ints)

pub coefficient_scale : (x : ℕ) (a : ℤ) (f : Form) → coefficient x (scale a f) ≡ a *ℤ coefficient x f
unfolding coefficient scale
coefficient_scale x a f = multiple_scaled x a f.terms

pub coefficient_plus : (x : ℕ) (f : Form) (a : ℤ) → coefficient x (plus f a) ≡ coefficient x f
unfolding coefficient plus
coefficient_plus x f a = refl

-- a name is gone from the form without it
pub coefficient_without_same : (x : ℕ) (f : Form) → coefficient x (without x f) ≡ pos 0
unfolding coefficient without
coefficient_without_same x f = (multiple_others x x f.terms).0 (eq-eqb x x refl)

pub coefficient_without_other : (x y : ℕ) (f : Form) → nat_eq x y ≡ false → coefficient y (without x f) ≡ coefficient y f
unfolding coefficient without
coefficient_without_other x y f e = (multiple_others x y f.terms).1 e
