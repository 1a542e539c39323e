-- The sorted form of a form: sorted, with the same value and the same coefficients.
use Rattle.std.proofs.Common.{◌≡◌, ◌<◌, ◌≤◌, ℕ, zero, suc, Bool, true, false, List, [], ◌∷◌, ap, ap₂, sym, ◌∙◌, subst, refl, arith, nat_eq, if◌then◌else◌, eqb-true}
use Rattle.std.specs.Prelude.{nat_lt}
use Rattle.std.proofs.Math.IntN.{ℤ, pos, negsuc, ◌+ℤ◌, ◌*ℤ◌}
use Rattle.std.proofs.lemmas.Bool.{ltb-true, ltb-false, eqb-false, cond_both}
use Rattle.std.proofs.lemmas.Int.{ints}
use Rattle.exact_numbers.proofs.Ring.{ring, zero_mul}
use Rattle.logic_meaning.specs.Point.{Point}
use Rattle.logic_meaning.specs.Form.{Form, Term, total, value, multiple, coefficient, without, scale, combine, plus}
use Rattle.logic_meaning.specs.Sorted.{AllAbove, IsRising, AllNonzero, IsSorted, with_term, put_term, gathered_terms, gathered}
use Rattle.formula_laws.proofs.Coefficients.{coefficient_combine, coefficient_scale, coefficient_without_same, coefficient_without_other}
use Rattle.formula_laws.proofs.Sorted.{sorted_determined, without_sorted, scale_sorted, above_from_first}

-- the term a * x
abbrev term : ℤ → ℕ → Term
term a x = record { times = a; name = x }

-- ---- the sum

with_term_total : (a : ℤ) (x : ℕ) (ts : List Term) (at : ℕ → ℤ) → total (with_term a x ts) at ≡ a *ℤ at x +ℤ total ts at
with_term_total (pos zero) x ts at = let z = zero_mul (at x) in omega (arith, ints)
with_term_total (pos (suc n)) x ts at = refl
with_term_total (negsuc n) x ts at = refl

added_total : (a b k r : ℤ) → (a +ℤ b) *ℤ k +ℤ r ≡ a *ℤ k +ℤ (b *ℤ k +ℤ r)
added_total a b k r = simp ring (omega (arith, ints))

put_term_total : (a : ℤ) (x : ℕ) (ts : List Term) (at : ℕ → ℤ) → total (put_term a x ts) at ≡ a *ℤ at x +ℤ total ts at
put_term_total a x [] at = with_term_total a x [] at
put_term_total a x (t ∷ ts) at =
    let P : List Term → Type 0 = λ us. total us at ≡ a *ℤ at x +ℤ (t.times *ℤ at t.name +ℤ total ts at) in
    cond_both (nat_lt x t.name) _ _ P (λ e. with_term_total a x (t ∷ ts) at) (λ e.
    cond_both (nat_eq x t.name) _ _ P (λ f.
    with_term_total (a +ℤ t.times) x ts at ∙ subst (λ (y : ℕ). (a +ℤ t.times) *ℤ at x +ℤ total ts at ≡ a *ℤ at x +ℤ (t.times *ℤ at y +ℤ total ts at)) (eqb-true x t.name f) (added_total a t.times (at x) (total ts at)))
    (λ f. let h = put_term_total a x ts at in omega (arith, ints)))

gathered_terms_total : (ts : List Term) (at : ℕ → ℤ) → total (gathered_terms ts) at ≡ total ts at
gathered_terms_total [] at = refl
gathered_terms_total (t ∷ ts) at = put_term_total t.times t.name (gathered_terms ts) at ∙ ap (λ s. t.times *ℤ at t.name +ℤ s) (gathered_terms_total ts at)

-- the same value at every point
pub value_gathered : (f : Form) (p : Point ℕ) → value (gathered f) p ≡ value f p
unfolding value gathered
value_gathered f p = ap (λ s. s +ℤ f.constant *ℤ pos p.below) (gathered_terms_total f.terms p.at)

-- ---- the multiples of one name

with_term_multiple : (x : ℕ) (a : ℤ) (y : ℕ) (ts : List Term) → multiple x (with_term a y ts) ≡ (if nat_eq x y then a +ℤ multiple x ts else multiple x ts)
with_term_multiple x (pos zero) y ts = go (nat_eq x y)
  where
    go : (b : Bool) → multiple x ts ≡ (if b then pos zero +ℤ multiple x ts else multiple x ts)
    go true = omega (arith, ints)
    go false = refl
with_term_multiple x (pos (suc n)) y ts = refl
with_term_multiple x (negsuc n) y ts = refl

put_term_multiple : (x : ℕ) (a : ℤ) (y : ℕ) (ts : List Term) → multiple x (put_term a y ts) ≡ (if nat_eq x y then a +ℤ multiple x ts else multiple x ts)
put_term_multiple x a y [] = with_term_multiple x a y []
put_term_multiple x a y (t ∷ ts) =
    let P : List Term → Type 0 = λ us. multiple x us ≡ (if nat_eq x y then a +ℤ multiple x (t ∷ ts) else multiple x (t ∷ ts)) in
    cond_both (nat_lt y t.name) _ _ P (λ e. with_term_multiple x a y (t ∷ ts)) (λ e.
    cond_both (nat_eq y t.name) _ _ P
    (λ f. with_term_multiple x (a +ℤ t.times) y ts ∙ subst (λ (z : ℕ). (if nat_eq x y then (a +ℤ t.times) +ℤ multiple x ts else multiple x ts) ≡ (if nat_eq x y then a +ℤ (if nat_eq x z then t.times +ℤ multiple x ts else multiple x ts) else (if nat_eq x z then t.times +ℤ multiple x ts else multiple x ts))) (eqb-true y t.name f) (same (nat_eq x y)))
    (λ f. other (nat_eq x t.name) (nat_eq x y) (put_term_multiple x a y ts)))
  where
    same : (b : Bool) → (if b then (a +ℤ t.times) +ℤ multiple x ts else multiple x ts) ≡ (if b then a +ℤ (if b then t.times +ℤ multiple x ts else multiple x ts) else (if b then t.times +ℤ multiple x ts else multiple x ts))
    same true = omega (arith, ints)
    same false = refl

    other : (b c : Bool) → multiple x (put_term a y ts) ≡ (if c then a +ℤ multiple x ts else multiple x ts) →
        (if b then t.times +ℤ multiple x (put_term a y ts) else multiple x (put_term a y ts)) ≡ (if c then a +ℤ (if b then t.times +ℤ multiple x ts else multiple x ts) else (if b then t.times +ℤ multiple x ts else multiple x ts))
    other true true h = omega (arith, ints)
    other true false h = ap (λ s. t.times +ℤ s) h
    other false true h = h
    other false false h = h

gathered_terms_multiple : (x : ℕ) (ts : List Term) → multiple x (gathered_terms ts) ≡ multiple x ts
gathered_terms_multiple x [] = refl
gathered_terms_multiple x (t ∷ ts) = put_term_multiple x t.times t.name (gathered_terms ts) ∙ ap (λ s. if nat_eq x t.name then t.times +ℤ s else s) (gathered_terms_multiple x ts)

-- the same coefficient of every name
pub coefficient_gathered : (x : ℕ) (f : Form) → coefficient x (gathered f) ≡ coefficient x f
unfolding coefficient gathered
coefficient_gathered x f = gathered_terms_multiple x f.terms

pub constant_gathered : (f : Form) → (gathered f).constant ≡ f.constant
unfolding gathered
constant_gathered f = refl

-- ---- sorted

with_term_above : (z : ℕ) (a : ℤ) (x : ℕ) (ts : List Term) → z < x → AllAbove z ts → AllAbove z (with_term a x ts)
with_term_above z (pos zero) x ts l h = h
with_term_above z (pos (suc n)) x ts l h = (l, h)
with_term_above z (negsuc n) x ts l h = (l, h)

with_term_rising : (a : ℤ) (x : ℕ) (ts : List Term) → AllAbove x ts → IsRising ts → IsRising (with_term a x ts)
with_term_rising (pos zero) x ts h r = r
with_term_rising (pos (suc n)) x ts h r = (h, r)
with_term_rising (negsuc n) x ts h r = (h, r)

with_term_nonzero : (a : ℤ) (x : ℕ) (ts : List Term) → AllNonzero ts → AllNonzero (with_term a x ts)
with_term_nonzero (pos zero) x ts h = h
with_term_nonzero (pos (suc n)) x ts h = (λ (e : pos (suc n) ≡ pos 0). omega (arith, ints), h)
with_term_nonzero (negsuc n) x ts h = (λ (e : negsuc n ≡ pos 0). omega (arith, ints), h)

put_term_above : (z : ℕ) (a : ℤ) (x : ℕ) (ts : List Term) → z < x → AllAbove z ts → AllAbove z (put_term a x ts)
put_term_above z a x [] l h = with_term_above z a x [] l tt
put_term_above z a x (t ∷ ts) l h =
    cond_both (nat_lt x t.name) _ _ (AllAbove z) (λ e. with_term_above z a x (t ∷ ts) l h)
    (λ e. cond_both (nat_eq x t.name) _ _ (AllAbove z) (λ f. with_term_above z (a +ℤ t.times) x ts l h.1) (λ f. (h.0, put_term_above z a x ts l h.1)))

put_term_rising : (a : ℤ) (x : ℕ) (ts : List Term) → IsRising ts → IsRising (put_term a x ts)
put_term_rising a x [] r = with_term_rising a x [] tt tt
put_term_rising a x (t ∷ ts) r =
    cond_both (nat_lt x t.name) _ _ IsRising (λ e. with_term_rising a x (t ∷ ts) (above_from_first x t ts r (ltb-true x t.name e)) r)
    (λ e. cond_both (nat_eq x t.name) _ _ IsRising
    (λ f. with_term_rising (a +ℤ t.times) x ts (subst (λ (y : ℕ). AllAbove y ts) (sym (eqb-true x t.name f)) r.0) r.1)
    (λ f. let l = ltb-false x t.name e in let n = eqb-false x t.name f in (put_term_above t.name a x ts (below x t.name l n) r.0, put_term_rising a x ts r.1)))
  where
    below : (x y : ℕ) → y ≤ x → ¬ (x ≡ y) → y < x
    below x y l n = omega arith

put_term_nonzero : (a : ℤ) (x : ℕ) (ts : List Term) → AllNonzero ts → AllNonzero (put_term a x ts)
put_term_nonzero a x [] h = with_term_nonzero a x [] tt
put_term_nonzero a x (t ∷ ts) h =
    cond_both (nat_lt x t.name) _ _ AllNonzero (λ e. with_term_nonzero a x (t ∷ ts) h)
    (λ e. cond_both (nat_eq x t.name) _ _ AllNonzero (λ f. with_term_nonzero (a +ℤ t.times) x ts h.1) (λ f. (h.0, put_term_nonzero a x ts h.1)))

gathered_terms_rising : (ts : List Term) → IsRising (gathered_terms ts)
gathered_terms_rising [] = tt
gathered_terms_rising (t ∷ ts) = put_term_rising t.times t.name (gathered_terms ts) (gathered_terms_rising ts)

gathered_terms_nonzero : (ts : List Term) → AllNonzero (gathered_terms ts)
gathered_terms_nonzero [] = tt
gathered_terms_nonzero (t ∷ ts) = put_term_nonzero t.times t.name (gathered_terms ts) (gathered_terms_nonzero ts)

pub gathered_sorted : (f : Form) → IsSorted (gathered f)
unfolding gathered
gathered_sorted f = record { rising = gathered_terms_rising f.terms; nonzero = gathered_terms_nonzero f.terms }

-- ---- determined

-- a sorted form with the coefficients and the constant of f is the sorted form of f
pub gathered_is : (f g : Form) → IsSorted g → ((x : ℕ) → coefficient x g ≡ coefficient x f) → g.constant ≡ f.constant → gathered f ≡ g
gathered_is f g s e c = sorted_determined (gathered f) g (gathered_sorted f) s (λ x. coefficient_gathered x f ∙ sym (e x)) (constant_gathered f ∙ sym c)

pub sorted_stays : (f : Form) → IsSorted f → gathered f ≡ f
sorted_stays f s = gathered_is f f s (λ x. refl) refl

-- forms with the same coefficients and the same constant have one sorted form
pub gathered_same : (f g : Form) → ((x : ℕ) → coefficient x f ≡ coefficient x g) → f.constant ≡ g.constant → gathered f ≡ gathered g
gathered_same f g e c = gathered_is f (gathered g) (gathered_sorted g) (λ x. coefficient_gathered x g ∙ sym (e x)) (constant_gathered g ∙ sym c)

constant_combine : (a : ℤ) (f : Form) (b : ℤ) (g : Form) → (combine a f b g).constant ≡ a *ℤ f.constant +ℤ b *ℤ g.constant
unfolding combine
constant_combine a f b g = refl

constant_scale : (a : ℤ) (f : Form) → (scale a f).constant ≡ a *ℤ f.constant
unfolding scale
constant_scale a f = refl

constant_without : (x : ℕ) (f : Form) → (without x f).constant ≡ f.constant
unfolding without
constant_without x f = refl

constant_plus : (f : Form) (a : ℤ) → (plus f a).constant ≡ f.constant +ℤ a
unfolding plus
constant_plus f a = refl

-- the forms that are combined may be gathered first
pub gathered_combine : (a : ℤ) (f : Form) (b : ℤ) (g : Form) → gathered (combine a f b g) ≡ gathered (combine a (gathered f) b (gathered g))
gathered_combine a f b g =
    gathered_same (combine a f b g) (combine a (gathered f) b (gathered g))
    (λ x. coefficient_combine x a f b g ∙ sym (coefficient_combine x a (gathered f) b (gathered g) ∙ ap₂ (λ u v. a *ℤ u +ℤ b *ℤ v) (coefficient_gathered x f) (coefficient_gathered x g)))
    (constant_combine a f b g ∙ sym (constant_combine a (gathered f) b (gathered g) ∙ ap₂ (λ u v. a *ℤ u +ℤ b *ℤ v) (constant_gathered f) (constant_gathered g)))

-- a sorted form with the numbers of a combination is its sorted form
pub gathered_combination : (a : ℤ) (f : Form) (b : ℤ) (g r : Form) → IsSorted r → ((x : ℕ) → coefficient x r ≡ a *ℤ coefficient x f +ℤ b *ℤ coefficient x g) →
    r.constant ≡ a *ℤ f.constant +ℤ b *ℤ g.constant → gathered (combine a f b g) ≡ r
gathered_combination a f b g r s e c = gathered_is (combine a f b g) r s (λ x. e x ∙ sym (coefficient_combine x a f b g)) (c ∙ sym (constant_combine a f b g))

-- a factor other than 0 keeps a form sorted
pub gathered_scale : (a : ℤ) (f : Form) → ¬ (a ≡ pos 0) → gathered (scale a f) ≡ scale a (gathered f)
gathered_scale a f n =
    gathered_is (scale a f) (scale a (gathered f)) (scale_sorted a (gathered f) n (gathered_sorted f))
    (λ x. coefficient_scale x a (gathered f) ∙ ap (λ z. a *ℤ z) (coefficient_gathered x f) ∙ sym (coefficient_scale x a f))
    (constant_scale a (gathered f) ∙ ap (λ z. a *ℤ z) (constant_gathered f) ∙ sym (constant_scale a f))

pub gathered_plus : (f : Form) (a : ℤ) → gathered (plus f a) ≡ plus (gathered f) a
unfolding gathered plus
gathered_plus f a = refl

pub gathered_without : (x : ℕ) (f : Form) → gathered (without x f) ≡ without x (gathered f)
gathered_without x f =
    gathered_is (without x f) (without x (gathered f)) (without_sorted x (gathered f) (gathered_sorted f)) (λ y. go y (nat_eq x y) refl)
    (constant_without x (gathered f) ∙ constant_gathered f ∙ sym (constant_without x f))
  where
    go : (y : ℕ) (b : Bool) → nat_eq x y ≡ b → coefficient y (without x (gathered f)) ≡ coefficient y (without x f)
    go y true e = subst (λ (z : ℕ). coefficient z (without x (gathered f)) ≡ coefficient z (without x f)) (eqb-true x y e) (coefficient_without_same x (gathered f) ∙ sym (coefficient_without_same x f))
    go y false e = coefficient_without_other x y (gathered f) e ∙ coefficient_gathered y f ∙ sym (coefficient_without_other x y f e)
