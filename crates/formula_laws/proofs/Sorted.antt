-- Rising lists of terms, and sorted forms: what they are and that their coefficients determine them.
use Rattle.std.proofs.Common.{◌≡◌, ◌<◌, ◌≤◌, inl, inr, ℕ, Bool, true, false, List, [], ◌∷◌, ap, sym, ◌∙◌, subst, refl, arith, nat_eq, if◌then◌else◌, eq-eqb, eqb-true}
use Rattle.std.proofs.Math.IntN.{ℤ, pos, ◌+ℤ◌, ◌*ℤ◌}
use Rattle.std.proofs.lemmas.Bool.{cases_lt, cases_eq}
use Rattle.std.proofs.lemmas.Int.{ints}
use Rattle.exact_numbers.proofs.Order.{cancel}
use Rattle.exact_numbers.proofs.Ring.{mul_zero}
use Rattle.logic_meaning.specs.Form.{Form, Term, multiple, others, scaled, coefficient, without, scale}
use Rattle.logic_meaning.specs.Sorted.{AllAbove, IsRising, AllNonzero, IsSorted}

pub above_lower : (x y : ℕ) (ts : List Term) → x ≤ y → AllAbove y ts → AllAbove x ts
above_lower x y [] h a = tt
above_lower x y (t ∷ ts) h a = let b = a.0 in (omega arith, above_lower x y ts h a.1)

pub above_from_first : (x : ℕ) (t : Term) (ts : List Term) → IsRising (t ∷ ts) → x < t.name → AllAbove x (t ∷ ts)
above_from_first x t ts r h = (h, above_lower x t.name ts (omega arith) r.0)

-- ---- the multiples of one name

-- no multiple of a name below all the terms' names
pub multiple_above : (x : ℕ) (ts : List Term) → AllAbove x ts → multiple x ts ≡ pos 0
multiple_above x [] h = refl
multiple_above x (t ∷ ts) h = go (nat_eq x t.name) refl (multiple_above x ts h.1)
  where
    go : (b : Bool) → nat_eq x t.name ≡ b → multiple x ts ≡ pos 0 → (if b then t.times +ℤ multiple x ts else multiple x ts) ≡ pos 0
    go true e z = let s = eqb-true x t.name e in let l = h.0 in absurd (omega arith)
    go false e z = z

-- the multiple of a name whose term is the next
pub here : (x : ℕ) (t : Term) (ts : List Term) → t.name ≡ x → AllAbove x ts → multiple x (t ∷ ts) ≡ t.times
here x t ts e a = go (nat_eq x t.name) refl (multiple_above x ts a)
  where
    go : (b : Bool) → nat_eq x t.name ≡ b → multiple x ts ≡ pos 0 → (if b then t.times +ℤ multiple x ts else multiple x ts) ≡ t.times
    go true f z = omega (arith, ints)
    go false f z = let g : nat_eq x t.name ≡ true = eq-eqb x t.name (sym e) in let k : true ≡ false = sym g ∙ f in absurd (cc)

-- and of a name that stands elsewhere
pub elsewhere : (x : ℕ) (t : Term) (ts : List Term) → ¬ (t.name ≡ x) → multiple x (t ∷ ts) ≡ multiple x ts
elsewhere x t ts n = go (nat_eq x t.name) refl
  where
    go : (b : Bool) → nat_eq x t.name ≡ b → (if b then t.times +ℤ multiple x ts else multiple x ts) ≡ multiple x ts
    go true f = let e = eqb-true x t.name f in absurd (n (sym e))
    go false f = refl

-- ---- determined by the coefficients

-- a term that the other list lacks would have the coefficient 0
apart : (t : Term) (ts us : List Term) → IsRising (t ∷ ts) → ¬ (t.times ≡ pos 0) → AllAbove t.name us → multiple t.name (t ∷ ts) ≡ multiple t.name us → ⊥
apart t ts us r n a e = n (sym (here t.name t ts refl r.0) ∙ e ∙ multiple_above t.name us a)

tails_agree : (s t : Term) (ss ts : List Term) → IsRising (s ∷ ss) → IsRising (t ∷ ts) → s.name ≡ t.name → ((x : ℕ) → multiple x (s ∷ ss) ≡ multiple x (t ∷ ts)) → (x : ℕ) → multiple x ss ≡ multiple x ts
tails_agree s t ss ts r q n e x =
    elim (cases_eq s.name x) [
      | inl m ↦ multiple_above x ss (subst (λ (k : ℕ). AllAbove k ss) m r.0) ∙ sym (multiple_above x ts (subst (λ (k : ℕ). AllAbove k ts) (sym n ∙ m) q.0))
      | inr m ↦ sym (elsewhere x s ss m) ∙ e x ∙ elsewhere x t ts (λ k. m (n ∙ k))
    ]

pub same_terms : (xs ys : List Term) → IsRising xs → IsRising ys → AllNonzero xs → AllNonzero ys → ((x : ℕ) → multiple x xs ≡ multiple x ys) → xs ≡ ys
same_terms [] [] r q n m e = refl
same_terms [] (t ∷ ts) r q n m e = absurd (apart t ts [] q m.0 tt (sym (e t.name)))
same_terms (s ∷ ss) [] r q n m e = absurd (apart s ss [] r n.0 tt (e s.name))
same_terms (s ∷ ss) (t ∷ ts) r q n m e =
    elim (cases_lt s.name t.name) [
      | inl l ↦ absurd (apart s ss (t ∷ ts) r n.0 (above_from_first s.name t ts q l) (e s.name))
      | inr g ↦ elim (cases_eq s.name t.name) [
        | inr d ↦ absurd (apart t ts (s ∷ ss) q m.0 (above_from_first t.name s ss r (omega arith)) (sym (e t.name)))
        | inl k ↦
            let times : s.times ≡ t.times = sym (here s.name s ss refl r.0) ∙ e s.name ∙ ap (λ x. multiple x (t ∷ ts)) k ∙ here t.name t ts refl q.0 in
            let term : s ≡ t = λ i. record { times = times i; name = k i } in
            let rest = same_terms ss ts r.1 q.1 n.1 m.1 (tails_agree s t ss ts r q k e) in
            λ i. term i ∷ rest i
      ]
    ]

-- two sorted forms with the same coefficients and the same constant are one form
pub sorted_determined : (f g : Form) → IsSorted f → IsSorted g → ((x : ℕ) → coefficient x f ≡ coefficient x g) → f.constant ≡ g.constant → f ≡ g
unfolding coefficient
sorted_determined f g p q e c = let t = same_terms f.terms g.terms p.rising q.rising p.nonzero q.nonzero e in λ i. record { terms = t i; constant = c i }

-- ---- what stays sorted

above_others : (y x : ℕ) (ts : List Term) → AllAbove y ts → AllAbove y (others x ts)
above_others y x [] a = tt
above_others y x (t ∷ ts) a = go (nat_eq x t.name) (above_others y x ts a.1)
  where
    go : (b : Bool) → AllAbove y (others x ts) → AllAbove y (if b then others x ts else t ∷ others x ts)
    go true h = h
    go false h = (a.0, h)

rising_others : (x : ℕ) (ts : List Term) → IsRising ts → IsRising (others x ts)
rising_others x [] r = tt
rising_others x (t ∷ ts) r = go (nat_eq x t.name) (above_others t.name x ts r.0) (rising_others x ts r.1)
  where
    go : (b : Bool) → AllAbove t.name (others x ts) → IsRising (others x ts) → IsRising (if b then others x ts else t ∷ others x ts)
    go true a h = h
    go false a h = (a, h)

nonzero_others : (x : ℕ) (ts : List Term) → AllNonzero ts → AllNonzero (others x ts)
nonzero_others x [] n = tt
nonzero_others x (t ∷ ts) n = go (nat_eq x t.name) (nonzero_others x ts n.1)
  where
    go : (b : Bool) → AllNonzero (others x ts) → AllNonzero (if b then others x ts else t ∷ others x ts)
    go true h = h
    go false h = (n.0, h)

pub without_sorted : (x : ℕ) (f : Form) → IsSorted f → IsSorted (without x f)
unfolding without
without_sorted x f p = record { rising = rising_others x f.terms p.rising; nonzero = nonzero_others x f.terms p.nonzero }

above_scaled : (x : ℕ) (a : ℤ) (ts : List Term) → AllAbove x ts → AllAbove x (scaled a ts)
above_scaled x a [] h = tt
above_scaled x a (t ∷ ts) h = (h.0, above_scaled x a ts h.1)

rising_scaled : (a : ℤ) (ts : List Term) → IsRising ts → IsRising (scaled a ts)
rising_scaled a [] r = tt
rising_scaled a (t ∷ ts) r = (above_scaled t.name a ts r.0, rising_scaled a ts r.1)

product_nonzero : (a b : ℤ) → ¬ (a ≡ pos 0) → ¬ (b ≡ pos 0) → ¬ (a *ℤ b ≡ pos 0)
product_nonzero a b n m e = m (cancel a n (e ∙ sym (mul_zero a)))

nonzero_scaled : (a : ℤ) (ts : List Term) → ¬ (a ≡ pos 0) → AllNonzero ts → AllNonzero (scaled a ts)
nonzero_scaled a [] n m = tt
nonzero_scaled a (t ∷ ts) n m = (product_nonzero a t.times n m.0, nonzero_scaled a ts n m.1)

pub scale_sorted : (a : ℤ) (f : Form) → ¬ (a ≡ pos 0) → IsSorted f → IsSorted (scale a f)
unfolding scale
scale_sorted a f n p = record { rising = rising_scaled a f.terms p.rising; nonzero = nonzero_scaled a f.terms n p.nonzero }
