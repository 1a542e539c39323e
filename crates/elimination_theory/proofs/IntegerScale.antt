-- The scale and the span that are computed fit each atom.
use Rattle.std.proofs.Common.{◌≡◌, ℕ, suc, zero, ◌*◌, ◌/◌, ◌<◌, ℤ, pos, negsuc, ◌*ℤ◌, neg_ℤ, ◌<ℤ◌, arith, refl, subst, sym, ap, ◌∙◌, List, [], ◌∷◌, unsigned_abs}
use Rattle.std.proofs.lemmas.Int.{ints}
use Rattle.exact_numbers.specs.Divides.{Divides, lcm_of}
use Rattle.exact_numbers.proofs.Ring.{ring, mul_comm, neg_mul}
use Rattle.exact_numbers.proofs.Order.{cancel_positive, factor_positive, mul_positive}
use Rattle.exact_numbers.proofs.Divisibility.{divides_trans, divides_along}
use Rattle.exact_numbers.proofs.LeastMultiple.{lcm_is, exact_div}
use Rattle.logic_meaning.specs.Some.{EachOf}
use Rattle.logic_meaning.specs.Context.{Integers}
use Rattle.logic_meaning.specs.Form.{coefficient}
use Rattle.logic_meaning.specs.Atom.{Atom, Compare, Congruent, form_of}
use Rattle.formula_laws.specs.TheoryAtoms.{AtomIn}
use Rattle.formula_laws.proofs.Values.{pos_mul}
use Rattle.elimination_theory.proofs.FieldsMeet.{pos_positive, positive_pos}
use Rattle.logic_meaning.specs.IntegersPoints.{common_multiple, with_coefficient, scale_of, with_modulus, span_of}
use Rattle.elimination_theory.proofs.IntegerCompare.{Factor, Scales}
use Rattle.elimination_theory.proofs.IntegerSides.{Fits}

-- ---- common multiples of natural numbers

abs_pos : (z : ℤ) → pos 0 <ℤ z → pos (unsigned_abs z) ≡ z
abs_pos (pos n) h = refl
abs_pos (negsuc n) h = absurd h.lt

module _ (m n : ℕ) (hm : 0 < m) (hn : 0 < n) where
  common_is : pos (common_multiple m n) ≡ lcm_of (pos m) (pos n)
  common_is = abs_pos (lcm_of (pos m) (pos n)) (lcm_is (pos_positive hm) (pos_positive hn)).positive

  pub common_positive : 0 < common_multiple m n
  common_positive = positive_pos (subst (λ (z : ℤ). pos 0 <ℤ z) (sym common_is) (lcm_is (pos_positive hm) (pos_positive hn)).positive)

  pub common_left : Divides (pos m) (pos (common_multiple m n))
  common_left = divides_along (sym common_is) (lcm_is (pos_positive hm) (pos_positive hn)).left

  pub common_right : Divides (pos n) (pos (common_multiple m n))
  common_right = divides_along (sym common_is) (lcm_is (pos_positive hm) (pos_positive hn)).right

  pub common_least : (k : ℤ) → Divides (pos m) k → Divides (pos n) k → Divides (pos (common_multiple m n)) k
  common_least k left right = subst (λ z. Divides z k) (sym common_is) ((lcm_is (pos_positive hm) (pos_positive hn)).least k left right)

-- a divisor n of l, and the number l / n
pub factor_of : (l n : ℕ) → 0 < l → 0 < n → Divides (pos n) (pos l) → Factor l n (l / n)
factor_of l n hl hn h =
    let e : pos n *ℤ pos (l / n) ≡ pos l = exact_div (pos n) (pos l) (not_zero n hn) h in
    record {
      positive = factor_positive (pos_positive hn) (subst (λ (z : ℤ). pos 0 <ℤ z) (sym e) (pos_positive hl));
      is = mul_comm (pos (l / n)) (pos n) ∙ e;
    }
  where
    not_zero : (n : ℕ) → 0 < n → ¬ (pos n ≡ pos 0)
    not_zero n h = λ (e : pos n ≡ pos 0). omega (arith, ints)

-- ---- the scale

-- l is a multiple of the coefficient, where that is not 0
abbrev pub Reaches : ℕ → ℤ → Type 0
Reaches l (pos zero) = Unit {0}
Reaches l (pos (suc n)) = Divides (pos (suc n)) (pos l)
Reaches l (negsuc n) = Divides (pos (suc n)) (pos l)

with_coefficient_positive : (c : ℤ) (n : ℕ) → 0 < n → 0 < with_coefficient c n
with_coefficient_positive (pos zero) n h = h
with_coefficient_positive (pos (suc a)) n h = common_positive (suc a) n (omega arith) h
with_coefficient_positive (negsuc a) n h = common_positive (suc a) n (omega arith) h

with_coefficient_reaches : (c : ℤ) (n l : ℕ) → 0 < n → Divides (pos (with_coefficient c n)) (pos l) → Reaches l c
with_coefficient_reaches (pos zero) n l h d = tt
with_coefficient_reaches (pos (suc a)) n l h d = divides_trans (common_left (suc a) n (omega arith) h) d
with_coefficient_reaches (negsuc a) n l h d = divides_trans (common_left (suc a) n (omega arith) h) d

with_coefficient_rest : (c : ℤ) (n l : ℕ) → 0 < n → Divides (pos (with_coefficient c n)) (pos l) → Divides (pos n) (pos l)
with_coefficient_rest (pos zero) n l h d = d
with_coefficient_rest (pos (suc a)) n l h d = divides_trans (common_right (suc a) n (omega arith) h) d
with_coefficient_rest (negsuc a) n l h d = divides_trans (common_right (suc a) n (omega arith) h) d

pub scale_positive : (x : ℕ) (atoms : List Atom) → 0 < scale_of x atoms
scale_positive x [] = omega arith
scale_positive x (a ∷ atoms) = with_coefficient_positive (coefficient x (form_of a)) (scale_of x atoms) (scale_positive x atoms)

-- each multiple of the scale is one of each coefficient
pub scale_reaches : (x l : ℕ) (atoms : List Atom) → Divides (pos (scale_of x atoms)) (pos l) → EachOf (λ a. Reaches l (coefficient x (form_of a))) atoms
scale_reaches x l [] d = tt
scale_reaches x l (a ∷ atoms) d = (
  with_coefficient_reaches (coefficient x (form_of a)) (scale_of x atoms) l (scale_positive x atoms) d,
  scale_reaches x l atoms (with_coefficient_rest (coefficient x (form_of a)) (scale_of x atoms) l (scale_positive x atoms) d),
)

pub scales_of : (l : ℕ) (c : ℤ) → 0 < l → Reaches l c → Scales l c
scales_of l (pos zero) h r = tt
scales_of l (pos (suc n)) h r = factor_of l (suc n) h (omega arith) r
scales_of l (negsuc n) h r = factor_of l (suc n) h (omega arith) r

-- ---- the span

-- d is a multiple of the modulus as it is multiplied
abbrev pub Spans : ℕ → ℕ → ℕ → ℤ → Type 0
Spans l d m (pos zero) = Unit {0}
Spans l d m (pos (suc n)) = Divides (pos (m * (l / suc n))) (pos d)
Spans l d m (negsuc n) = Divides (pos (m * (l / suc n))) (pos d)

pub multiplied_positive : (l m n : ℕ) → 0 < l → 0 < m → Divides (pos (suc n)) (pos l) → 0 < m * (l / suc n)
multiplied_positive l m n hl hm r =
    let f = factor_of l (suc n) hl (omega arith) r in
    positive_pos (subst (λ (z : ℤ). pos 0 <ℤ z) (sym (pos_mul m (l / suc n))) (mul_positive (pos_positive hm) f.positive))

module _ (l m : ℕ) (hl : 0 < l) (hm : 0 < m) where
  with_modulus_positive : (c : ℤ) (n : ℕ) → Reaches l c → 0 < n → 0 < with_modulus l m c n
  with_modulus_positive (pos zero) n r h = h
  with_modulus_positive (pos (suc a)) n r h = common_positive (m * (l / suc a)) n (multiplied_positive l m a hl hm r) h
  with_modulus_positive (negsuc a) n r h = common_positive (m * (l / suc a)) n (multiplied_positive l m a hl hm r) h

  pub with_modulus_spans : (c : ℤ) (n d : ℕ) → Reaches l c → 0 < n → Divides (pos (with_modulus l m c n)) (pos d) → Spans l d m c
  with_modulus_spans (pos zero) n d r h e = tt
  with_modulus_spans (pos (suc a)) n d r h e = divides_trans (common_left (m * (l / suc a)) n (multiplied_positive l m a hl hm r) h) e
  with_modulus_spans (negsuc a) n d r h e = divides_trans (common_left (m * (l / suc a)) n (multiplied_positive l m a hl hm r) h) e

  pub with_modulus_rest : (c : ℤ) (n d : ℕ) → Reaches l c → 0 < n → Divides (pos (with_modulus l m c n)) (pos d) → Divides (pos n) (pos d)
  with_modulus_rest (pos zero) n d r h e = e
  with_modulus_rest (pos (suc a)) n d r h e = divides_trans (common_right (m * (l / suc a)) n (multiplied_positive l m a hl hm r) h) e
  with_modulus_rest (negsuc a) n d r h e = divides_trans (common_right (m * (l / suc a)) n (multiplied_positive l m a hl hm r) h) e

pub span_positive : (l x : ℕ) (atoms : List Atom) → 0 < l → EachOf (AtomIn Integers) atoms → EachOf (λ a. Reaches l (coefficient x (form_of a))) atoms → 0 < span_of l x atoms
span_positive l x [] hl inside reach = hl
span_positive l x (Compare r f ∷ atoms) hl inside reach = span_positive l x atoms hl inside.1 reach.1
span_positive l x (Congruent holds m f ∷ atoms) hl inside reach =
    with_modulus_positive l m hl inside.0 (coefficient x f) (span_of l x atoms) reach.0 (span_positive l x atoms hl inside.1 reach.1)

-- the span is a multiple of the scale
pub span_scale : (l x d : ℕ) (atoms : List Atom) → 0 < l → EachOf (AtomIn Integers) atoms → EachOf (λ a. Reaches l (coefficient x (form_of a))) atoms →
    Divides (pos (span_of l x atoms)) (pos d) → Divides (pos l) (pos d)
span_scale l x d [] hl inside reach e = e
span_scale l x d (Compare r f ∷ atoms) hl inside reach e = span_scale l x d atoms hl inside.1 reach.1 e
span_scale l x d (Congruent holds m f ∷ atoms) hl inside reach e =
    span_scale l x d atoms hl inside.1 reach.1
    (with_modulus_rest l m hl inside.0 (coefficient x f) (span_of l x atoms) d reach.0 (span_positive l x atoms hl inside.1 reach.1) e)

-- m divides n times the step, where c * n is the scale l, the span d is l times the step, and m * c divides d
step_of_period : (c l n d step m : ℕ) → pos 0 <ℤ pos c → pos c *ℤ pos n ≡ pos l → pos d ≡ pos l *ℤ pos step → Divides (pos (m * c)) (pos d) →
    (w : ℤ) × (pos n *ℤ pos step ≡ w *ℤ pos m)
step_of_period c l n d step m hc scale span h =
    (h.quotient, cancel_positive (pos c) hc (period_is (pos c) (pos n) (pos step) (pos m) h.quotient (pos l) (pos d) scale span (h.exact ∙ ap (λ z. z *ℤ h.quotient) (pos_mul m c))))
  where
    period_is : (c n s m q l d : ℤ) → c *ℤ n ≡ l → d ≡ l *ℤ s → d ≡ (m *ℤ c) *ℤ q → c *ℤ (n *ℤ s) ≡ c *ℤ (q *ℤ m)
    period_is c n s m q l d e f g =
        let k = simp ring at (ap (λ z. z *ℤ s) e) in
        let i = simp ring at (sym f ∙ g) in
        simp ring (omega (arith, ints, k, i))

period_of : (l d step m : ℕ) (c : ℤ) → 0 < l → pos d ≡ pos l *ℤ pos step → Scales l c → Spans l d m c → (w : ℤ) × (c *ℤ pos step ≡ w *ℤ pos m)
period_of l d step m (pos zero) hl span s h = (pos 0, omega (arith, ints))
period_of l d step m (pos (suc n)) hl span s h = step_of_period (l / suc n) l (suc n) d step m s.positive s.is span h
period_of l d step m (negsuc n) hl span s h =
    let w : (w : ℤ) × (pos (suc n) *ℤ pos step ≡ w *ℤ pos m) = step_of_period (l / suc n) l (suc n) d step m s.positive s.is span h in
    (neg_ℤ w.0, neg_mul (pos (suc n)) (pos step) ∙ ap neg_ℤ w.1 ∙ sym (neg_mul w.0 (pos m)))

-- a multiple of the scale and one of the span fit each atom
pub fits_each : (l d step x : ℕ) (atoms : List Atom) → 0 < l → pos d ≡ pos l *ℤ pos step → EachOf (AtomIn Integers) atoms →
    EachOf (λ a. Reaches l (coefficient x (form_of a))) atoms → Divides (pos (span_of l x atoms)) (pos d) → EachOf (Fits l step x) atoms
fits_each l d step x [] hl span inside reach h = tt
fits_each l d step x (Compare r f ∷ atoms) hl span inside reach h =
    (scales_of l (coefficient x f) hl reach.0, fits_each l d step x atoms hl span inside.1 reach.1 h)
fits_each l d step x (Congruent holds m f ∷ atoms) hl span inside reach h =
    let p = span_positive l x atoms hl inside.1 reach.1 in (
      period_of l d step m (coefficient x f) hl span (scales_of l (coefficient x f) hl reach.0) (with_modulus_spans l m hl inside.0 (coefficient x f) (span_of l x atoms) d reach.0 p h),
      fits_each l d step x atoms hl span inside.1 reach.1 (with_modulus_rest l m hl inside.0 (coefficient x f) (span_of l x atoms) d reach.0 p h),
    )
