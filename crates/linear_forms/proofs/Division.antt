-- The terms at a place, and terms divided.
use Rattle.std.proofs.Common.{◌≡◌, ◌<◌, ◌+◌, ℕ, zero, suc, List, [], ◌∷◌, ◌++◌, length, get_or, take, ap, sym, ◌∙◌, subst, refl, arith}
use Rattle.std.proofs.Math.IntN.{ℤ, pos, ◌+ℤ◌, ◌*ℤ◌}
use Rattle.std.specs.Prelude.{unsigned_abs, int_div, FitsSigned}
use Rattle.std.specs.Int.{w128}
use Rattle.std.specs.List.{AllZip}
use Rattle.std.proofs.Math.Nat.{le-mul_of_pos_right}
use Rattle.std.proofs.lemmas.List.{take_more}
use Rattle.std.proofs.lemmas.Int.{ints, unsigned_abs-mul}
use Rattle.exact_numbers.specs.Limit.{InLimit}
use Rattle.exact_numbers.specs.Divides.{Divides, IsGcd}
use Rattle.exact_numbers.specs.Division.{DividesAll, IsContent}
use Rattle.exact_numbers.proofs.Ring.{ring, mul_zero}
use Rattle.exact_numbers.proofs.Divisibility.{divides_zero}
use Rattle.exact_numbers.proofs.LeastMultiple.{exact_div}
use Rattle.exact_numbers.proofs.Contents.{content_push}
use Rattle.exact_numbers.proofs.Casts.{fits}
use Rattle.logic_meaning.specs.Form.{Term, total, value, coefficient}
use Rattle.logic_meaning.specs.declared.form.VarId.{VarId}
use Rattle.linear_forms.specs.Linear.{term_of, terms_of, IsDivided}
use Rattle.logic_meaning.specs.Sorted.{AllAbove, IsRising, AllNonzero}
use Rattle.logic_meaning.specs.Terms.{AllInLimit, coefficients}
use Rattle.linear_forms.specs.Combinations.{IsLinear, IsQuotient}
use Rattle.linear_forms.proofs.Peeling.{terms_of-push}
use Rattle.linear_forms.proofs.Totals.{one_at, multiple_total}

-- ---- at a place

pub within_at : (xs : List (VarId × ℤ)) (i : ℕ) (d : VarId × ℤ) → AllInLimit (terms_of xs) → i < length xs → InLimit (get_or xs i d).1
within_at [] i d a h = absurd (omega arith)
within_at (p ∷ ps) zero d a h = a.0
within_at (p ∷ ps) (suc i) d a h = within_at ps i d a.1 (omega arith)

pub divides_at : (by : ℤ) (xs : List (VarId × ℤ)) (i : ℕ) (d : VarId × ℤ) → DividesAll by (coefficients (terms_of xs)) → i < length xs → Divides by (get_or xs i d).1
divides_at by [] i d a h = absurd (omega arith)
divides_at by (p ∷ ps) zero d a h = a.0
divides_at by (p ∷ ps) (suc i) d a h = divides_at by ps i d a.1 (omega arith)

coefficients-push : (ts : List Term) (t : Term) → coefficients (ts ++ t ∷ []) ≡ coefficients ts ++ t.times ∷ []
coefficients-push [] t = refl
coefficients-push (s ∷ ts) t = ap (λ xs. s.times ∷ xs) (coefficients-push ts t)

pub content_nothing : IsContent [] (pos 0)
content_nothing = record { not_negative = omega (arith, ints); divides = tt; greatest = λ d _. divides_zero d }

-- one coefficient more in a greatest common divisor
pub content_more : (xs : List (VarId × ℤ)) (i : ℕ) (d : VarId × ℤ) (g h : ℤ) → i < length xs → IsContent (coefficients (terms_of (take i xs))) g → IsGcd g (get_or xs i d).1 h → IsContent (coefficients (terms_of (take (i + 1) xs))) h
content_more xs i d g h l c p =
    let e = ap (λ ys. coefficients (terms_of ys)) (take_more xs i d l) ∙ ap coefficients (terms_of-push (take i xs) (get_or xs i d)) ∙ coefficients-push (terms_of (take i xs)) (term_of (get_or xs i d)) in
    subst (λ (ys : List ℤ). IsContent ys h) (sym e) (content_push (coefficients (terms_of (take i xs))) (get_or xs i d).1 g h c p)

-- ---- quotients

-- a factor beside one that is not 0 is no larger than the product
pub quotient_within : (d q n : ℤ) → ¬ (d ≡ pos 0) → d *ℤ q ≡ n → InLimit n → InLimit q
quotient_within d q n z e h =
    let m = unsigned_abs-mul d q in
    let f = ap unsigned_abs e in
    let p : 0 < unsigned_abs d = omega (arith, ints) in
    let l = le-mul_of_pos_right (unsigned_abs q) p in
    omega (arith, m, f, l)

pub exact_quotient_fits : (d n : ℤ) → ¬ (d ≡ pos 0) → Divides d n → InLimit n → FitsSigned w128 (int_div n d)
exact_quotient_fits d n z h w = fits (int_div n d) (quotient_within d (int_div n d) n z (exact_div d n z h) w)

module _ (d : ℤ) (z : ¬ (d ≡ pos 0)) where
  above_divided : (x : ℕ) (xs ys : List (VarId × ℤ)) → AllZip (IsDivided d) xs ys → AllAbove x (terms_of xs) → AllAbove x (terms_of ys)
  above_divided x [] [] r a = tt
  above_divided x [] (q ∷ ys) r a = absurd r
  above_divided x (p ∷ xs) [] r a = absurd r
  above_divided x (p ∷ xs) (q ∷ ys) r a = let e = r.0.same_name in let b = a.0 in (omega arith, above_divided x xs ys r.1 a.1)

  rising_divided : (xs ys : List (VarId × ℤ)) → AllZip (IsDivided d) xs ys → IsRising (terms_of xs) → IsRising (terms_of ys)
  rising_divided [] [] r a = tt
  rising_divided [] (q ∷ ys) r a = absurd r
  rising_divided (p ∷ xs) [] r a = absurd r
  rising_divided (p ∷ xs) (q ∷ ys) r a = (subst (λ (x : ℕ). AllAbove x (terms_of ys)) (sym r.0.same_name) (above_divided p.0.number xs ys r.1 a.0), rising_divided xs ys r.1 a.1)

  nonzero_divided : (xs ys : List (VarId × ℤ)) → AllZip (IsDivided d) xs ys → AllNonzero (terms_of xs) → AllNonzero (terms_of ys)
  nonzero_divided [] [] r a = tt
  nonzero_divided [] (q ∷ ys) r a = absurd r
  nonzero_divided (p ∷ xs) [] r a = absurd r
  nonzero_divided (p ∷ xs) (q ∷ ys) r a = (λ e. a.0 (sym r.0.times ∙ ap (λ k. d *ℤ k) e ∙ mul_zero d), nonzero_divided xs ys r.1 a.1)

  within_divided : (xs ys : List (VarId × ℤ)) → AllZip (IsDivided d) xs ys → AllInLimit (terms_of xs) → AllInLimit (terms_of ys)
  within_divided [] [] r a = tt
  within_divided [] (q ∷ ys) r a = absurd r
  within_divided (p ∷ xs) [] r a = absurd r
  within_divided (p ∷ xs) (q ∷ ys) r a = (quotient_within d q.1 p.1 z r.0.times a.0, within_divided xs ys r.1 a.1)

  divided_step : (q p m n s t : ℤ) → d *ℤ q ≡ p → m ≡ n → d *ℤ s ≡ t → d *ℤ (q *ℤ m +ℤ s) ≡ p *ℤ n +ℤ t
  divided_step q p m n s t e f g =
      let x = simp ring at (ap (λ k. k *ℤ n) e) in
      let y = ap (λ k. d *ℤ (q *ℤ k)) f in
      simp ring (omega (arith, ints, x, y, g))

  total_divided : (xs ys : List (VarId × ℤ)) (at : ℕ → ℤ) → AllZip (IsDivided d) xs ys → d *ℤ total (terms_of ys) at ≡ total (terms_of xs) at
  total_divided [] [] at r = mul_zero d
  total_divided [] (q ∷ ys) at r = absurd r
  total_divided (p ∷ xs) [] at r = absurd r
  total_divided (p ∷ xs) (q ∷ ys) at r = divided_step q.1 p.1 (at q.0.number) (at p.0.number) (total (terms_of ys) at) (total (terms_of xs) at) r.0.times (ap at r.0.same_name) (total_divided xs ys at r.1)

  value_divided : (k c s t w : ℤ) → d *ℤ k ≡ c → d *ℤ s ≡ t → d *ℤ (s +ℤ k *ℤ w) ≡ t +ℤ c *ℤ w
  value_divided k c s t w e f = let x = simp ring at (ap (λ m. m *ℤ w) e) in simp ring (omega (arith, ints, x, f))

  -- the divided terms and constant are the divided form
  pub quotient_form : (xs ys : List (VarId × ℤ)) (c k : ℤ) → AllZip (IsDivided d) xs ys → d *ℤ k ≡ c → IsLinear (record { terms = terms_of xs; constant = c }) → IsQuotient (record { terms = terms_of xs; constant = c }) d (record { terms = terms_of ys; constant = k })
  unfolding coefficient value
  quotient_form xs ys c k r e l =
      record {
        linear = record { sorted = record { rising = rising_divided xs ys r l.sorted.rising; nonzero = nonzero_divided xs ys r l.sorted.nonzero }; within = within_divided xs ys r l.within; constant_within = quotient_within d k c z e l.constant_within };
        coefficients_scale = λ x. ap (λ m. d *ℤ m) (multiple_total x (terms_of ys)) ∙ total_divided xs ys (one_at x) r ∙ sym (multiple_total x (terms_of xs));
        constant_scales = e;
        values_scale = λ p. value_divided k c (total (terms_of ys) p.at) (total (terms_of xs) p.at) (pos p.below) e (total_divided xs ys p.at r);
      }
