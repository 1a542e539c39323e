-- The form of a written sum is the form that was printed.
use Rattle.std.proofs.Common.{◌≡◌, ℕ, ◌^◌, ◌<◌, Bool, true, false, List, [], ◌∷◌, ◌++◌, map, sym, refl, ap, ◌∙◌, subst, arith, append_assoc, append-nil, eqb-true, nat_eq, if◌then◌else◌}
use Rattle.std.proofs.Math.IntN.{ℤ, pos, negsuc, ◌+ℤ◌, ◌*ℤ◌}
use Rattle.std.specs.Prelude.{unsigned_abs, int_div, Result, Ok, Err}
use Rattle.std.specs.List.{list_all, AllByRecursion}
use Rattle.std.specs.Ordering.{int_eq}
use Rattle.std.proofs.lemmas.Int.{ints}
use Rattle.std.proofs.lemmas.Bool.{and_from, lt-ltb}
use Rattle.std.proofs.lemmas.Bool.Decides.{Decides-int_eq}
use Rattle.exact_numbers.specs.Divides.{content_of, lcm_of, gcd_of, euclid}
use Rattle.exact_numbers.specs.Frac.{whole_frac}
use Rattle.exact_numbers.proofs.Ring.{one_mul, mul_one, mul_zero}
use Rattle.exact_numbers.proofs.Contents.{content_is}
use Rattle.exact_numbers.proofs.Divisibility.{divides_both, one_divides}
use Rattle.logic_meaning.specs.Context.{Context}
use Rattle.logic_meaning.specs.Form.{Form, Term, coefficients, scaled, scale, combine}
use Rattle.logic_meaning.specs.Sorted.{AllAbove, IsRising, AllNonzero, IsSorted, gathered}
use Rattle.formula_laws.proofs.Gathered.{sorted_stays}
use Rattle.logic_meaning.specs.Reduction.{quotient}
use Rattle.linear_forms.proofs.Quotients.{one_quotient, quotient_one}
use Rattle.language_meaning.specs.Trees.{TermTree, Named, Product, terms_of}
use Rattle.language_meaning.specs.Grammar.{sum_of}
use Rattle.logic_meaning.specs.Text.{name_at}
use Rattle.language_meaning.specs.FractionRule.{◌>>=◌, added}
use Rattle.logic_meaning.specs.Limits.{is_within}
use Rattle.language_meaning.specs.RationalForms.{RationalForm, Overflow, numbers_of, formed_number, formed_form, lowest_form, sum_of_forms, multiple_of_form, product_of_forms, variable_form, forms, formed, formed_difference}
use Rattle.round_trip.specs.Written.{number_term, signed_term, factor_term, multiple_term, constant_term, later_constant_terms, member_terms, form_term}
use Rattle.exact_numbers.specs.Limit.{InLimit}
use Rattle.logic_meaning.specs.Numbers.{AllInLimit, IsFormInLimit}

-- a form over the denominator 1
abbrev pub whole : Form → RationalForm
whole f = record { form = f; denominator = pos 1 }

abbrev pub form : List Term → ℤ → Form
form ts c = record { terms = ts; constant = c }

abbrev pub term : ℤ → ℕ → Term
term a x = record { times = a; name = x }

-- the second calculation follows on the first
follows : {A B E : Type 0} (r : Result A E) (x : A) (k : A → Result B E) → r ≡ Ok x → (r >>= k) ≡ k x
follows r x k e = ap (λ s. s >>= k) e

-- ---- numbers within the limit

within_is : (z : ℤ) → InLimit z → is_within z ≡ true
within_is z h = lt-ltb (unsigned_abs z) (2 ^ 127) h

all_within : (ts : List Term) → AllInLimit ts → list_all is_within (coefficients ts) ≡ true
all_within [] h = refl
all_within (t ∷ ts) h = and_from _ _ (within_is t.times h.0) (all_within ts h.1)

form_formed : (f : Form) → IsFormInLimit f → formed_form f ≡ Ok f
unfolding formed_form
form_formed f h = ap (λ b. if b then Ok f else Err Overflow) (and_from _ _ (within_is f.constant h.0) (all_within f.terms h.1))

-- ---- lowest terms

content_one : (xs : List ℤ) → content_of (pos 1 ∷ xs) ≡ pos 1
content_one xs = let c = content_is (pos 1 ∷ xs) in divides_both c.not_negative (omega (arith, ints)) c.divides.0 (one_divides (content_of (pos 1 ∷ xs)))

lowest_whole : (f : Form) → lowest_form f (pos 1) ≡ whole f
unfolding lowest_form
lowest_whole f =
    let e = content_one (numbers_of f) in
    (λ i. record { form = quotient f (e i); denominator = int_div (pos 1) (e i) })
    ∙ (λ i. record { form = quotient_one f i; denominator = one_quotient (pos 1) i })

-- ---- sums

scaled_one : (ts : List Term) → scaled (pos 1) ts ≡ ts
scaled_one [] = refl
scaled_one (t ∷ ts) = let rest = scaled_one ts in λ i. term (one_mul t.times i) t.name ∷ rest i

scale_one : (f : Form) → scale (pos 1) f ≡ f
unfolding scale
scale_one f = λ i. form (scaled_one f.terms i) (one_mul f.constant i)

abbrev both : Form → Form → Form
both f g = form (f.terms ++ g.terms) (f.constant +ℤ g.constant)

combine_one : (f g : Form) → combine (pos 1) f (pos 1) g ≡ both f g
unfolding combine
combine_one f g = λ i. form (scaled_one f.terms i ++ scaled_one g.terms i) (one_mul f.constant i +ℤ one_mul g.constant i)

one_lcm : formed_number (lcm_of (pos 1) (pos 1)) ≡ Ok (pos 1)
unfolding formed_number lcm_of gcd_of euclid
one_lcm = refl

scaled_up : (f : Form) → IsFormInLimit f → formed_form (scale (int_div (pos 1) (pos 1)) f) ≡ Ok f
scaled_up f h = ap formed_form (ap (λ k. scale k f) (one_quotient (pos 1)) ∙ scale_one f) ∙ form_formed f h

sum_whole : (f g : Form) → IsFormInLimit f → IsFormInLimit g → IsFormInLimit (both f g) → IsSorted (both f g) → sum_of_forms (whole f) (whole g) ≡ Ok (whole (both f g))
unfolding sum_of_forms
sum_whole f g a b h s =
    follows _ _ _ one_lcm ∙ follows _ _ _ (scaled_up f a) ∙ follows _ _ _ (scaled_up g b)
    ∙ follows _ _ _ (ap formed_form (ap gathered (combine_one f g) ∙ sorted_stays (both f g) s) ∙ form_formed (both f g) h) ∙ ap Ok (lowest_whole (both f g))

-- ---- multiples

single_sorted : (a : ℤ) (x : ℕ) (c : ℤ) → ¬ (a ≡ pos 0) → IsSorted (form (term a x ∷ []) c)
single_sorted a x c n = record { rising = (tt, tt); nonzero = (n, tt) }

empty_sorted : (c : ℤ) → IsSorted (form [] c)
empty_sorted c = record { rising = tt; nonzero = tt }

zero_fits : InLimit (pos 0)
zero_fits = omega arith

one_fits : InLimit (pos 1)
one_fits = omega arith

one_product : formed_number (pos 1 *ℤ pos 1) ≡ Ok (pos 1)
unfolding formed_number
one_product = ap formed_number (one_mul (pos 1))

-- a form times a number, where the product is this form
multiple_whole : (f g : Form) (n : ℤ) → gathered (scale n f) ≡ g → IsFormInLimit g → multiple_of_form (whole f) (whole_frac n) ≡ Ok (whole g)
unfolding multiple_of_form
multiple_whole f g n e h =
    follows _ _ _ (ap formed_form e ∙ form_formed g h) ∙ follows _ _ _ one_product ∙ ap Ok (lowest_whole g)

one_scaled : (n : ℤ) → gathered (scale n (form [] (pos 1))) ≡ form [] n
unfolding gathered scale
one_scaled n = ap (form []) (mul_one n)

-- 1 times a number
pub number_product : (n : ℤ) → InLimit n → product_of_forms (whole (form [] (pos 1))) (whole (form [] n)) ≡ Ok (whole (form [] n))
unfolding product_of_forms
number_product n h = multiple_whole (form [] (pos 1)) (form [] n) n (one_scaled n) (h, tt)

scaled_name : (a : ℤ) (x : ℕ) → scale a (form (term (pos 1) x ∷ []) (pos 0)) ≡ form (term a x ∷ []) (pos 0)
unfolding scale
scaled_name a x = λ i. form (term (mul_one a i) x ∷ []) (mul_zero a i)

name_scaled : (a : ℤ) (x : ℕ) → ¬ (a ≡ pos 0) → gathered (scale a (form (term (pos 1) x ∷ []) (pos 0))) ≡ form (term a x ∷ []) (pos 0)
name_scaled a x n = ap gathered (scaled_name a x) ∙ sorted_stays (form (term a x ∷ []) (pos 0)) (single_sorted a x (pos 0) n)

-- a number times a name
name_product : (a : ℤ) (x : ℕ) → InLimit a → ¬ (a ≡ pos 0) → product_of_forms (whole (form [] a)) (variable_form x) ≡ Ok (whole (form (term a x ∷ []) (pos 0)))
unfolding product_of_forms
name_product a x h n = multiple_whole (form (term (pos 1) x ∷ []) (pos 0)) (form (term a x ∷ []) (pos 0)) a (name_scaled a x n) (zero_fits, (h, tt))

-- ---- signs

as_positive : (z : ℤ) (n : ℕ) → z ≡ pos n → pos (unsigned_abs z) ≡ z
as_positive z n is = omega (arith, ints)

as_negative : (z : ℤ) (n : ℕ) → z ≡ negsuc n → negsuc 0 *ℤ pos (unsigned_abs z) ≡ z
as_negative z n is = omega (arith, ints)

opposite_multiple : (z : ℤ) (x : ℕ) (n : ℕ) → z ≡ negsuc n → scale (negsuc 0) (form (term (pos (unsigned_abs z)) x ∷ []) (pos 0)) ≡ form (term z x ∷ []) (pos 0)
unfolding scale
opposite_multiple z x n is = λ i. form (term (as_negative z n is i) x ∷ []) (mul_zero (negsuc 0) i)

opposite_constant : (z : ℤ) (n : ℕ) → z ≡ negsuc n → scale (negsuc 0) (form [] (pos (unsigned_abs z))) ≡ form [] z
unfolding scale
opposite_constant z n is = ap (form []) (as_negative z n is)

module _ (c : Context) (number : List ℕ → ℕ) where
  factor_formed : (n : ℕ) (x : List ℕ) → n < 2 ^ 127 → ¬ (n ≡ 0) → formed c number (factor_term n x) ≡ Ok (whole (form (term (pos n) (number x) ∷ []) (pos 0)))
  factor_formed n x h s = go (nat_eq n 1) refl
    where
      go : (b : Bool) → nat_eq n 1 ≡ b → formed c number (if b then Named x else Product (terms_of (number_term n ∷ Named x ∷ []))) ≡ Ok (whole (form (term (pos n) (number x) ∷ []) (pos 0)))
      go true e = ap (λ m. Ok (whole (form (term (pos m) (number x) ∷ []) (pos 0)))) (sym (eqb-true n 1 e))
      go false e =
          follows _ _ _ (number_product (pos n) h)
          ∙ follows _ _ _ (name_product (pos n) (number x) h (λ (z : pos n ≡ pos 0). s (omega (arith, ints))))

  -- a sign before a form
  signed_formed : (z : ℤ) (t : TermTree) (f g : Form) → formed c number t ≡ Ok (whole f) → ((n : ℕ) → z ≡ pos n → f ≡ g) → ((n : ℕ) → z ≡ negsuc n → scale (negsuc 0) f ≡ g) → formed c number (signed_term z t) ≡ Ok (whole g)
  signed_formed (pos n) t f g e p q = e ∙ ap (λ h. Ok (whole h)) (p n refl)
  signed_formed (negsuc n) t f g e p q = follows _ _ _ e ∙ ap (λ h. Ok (whole h)) (q n refl)

  multiple_formed : (names : List (List ℕ)) (u : Term) → InLimit u.times → ¬ (u.times ≡ pos 0) → number (name_at names u.name) ≡ u.name → formed c number (multiple_term names u) ≡ Ok (whole (form (u ∷ []) (pos 0)))
  multiple_formed names u h s e =
      signed_formed u.times (factor_term (unsigned_abs u.times) (name_at names u.name)) (form (term (pos (unsigned_abs u.times)) u.name ∷ []) (pos 0)) (form (u ∷ []) (pos 0))
      (factor_formed (unsigned_abs u.times) (name_at names u.name) h (λ (z : unsigned_abs u.times ≡ 0). s (omega (arith, ints))) ∙ ap (λ y. Ok (whole (form (term (pos (unsigned_abs u.times)) y ∷ []) (pos 0)))) e)
      (λ n is. ap (λ a. form (term a u.name ∷ []) (pos 0)) (as_positive u.times n is)) (λ n is. opposite_multiple u.times u.name n is)

  constant_formed : (k : ℤ) → formed c number (constant_term k) ≡ Ok (whole (form [] k))
  constant_formed k = signed_formed k (number_term (unsigned_abs k)) (form [] (pos (unsigned_abs k))) (form [] k) refl (λ n is. ap (form []) (as_positive k n is)) (λ n is. opposite_constant k n is)

-- ---- the front of a sorted form

zero_add : (k : ℤ) → pos 0 +ℤ k ≡ k
zero_add k = omega (arith, ints)

add_zero : (k : ℤ) → k +ℤ pos 0 ≡ k
add_zero k = omega (arith, ints)

pub is_zero : (k : ℤ) → int_eq k (pos 0) ≡ true → k ≡ pos 0
is_zero k e = (Decides-int_eq k (pos 0)).0 e

last_nonzero : (done us : List Term) (k : ℤ) (u : Term) → IsSorted (form (done ++ u ∷ us) k) → ¬ (u.times ≡ pos 0)
last_nonzero done us k u s = go done s.nonzero
  where
    go : (xs : List Term) → AllNonzero (xs ++ u ∷ us) → ¬ (u.times ≡ pos 0)
    go [] h = h.0
    go (x ∷ xs) h = go xs h.1

front_above : (x : ℕ) (xs ys : List Term) → AllAbove x (xs ++ ys) → AllAbove x xs
front_above x [] ys h = tt
front_above x (t ∷ ts) ys h = (h.0, front_above x ts ys h.1)

front_rising : (xs ys : List Term) → IsRising (xs ++ ys) → IsRising xs
front_rising [] ys h = tt
front_rising (t ∷ ts) ys h = (front_above t.name ts ys h.0, front_rising ts ys h.1)

front_nonzero : (xs ys : List Term) → AllNonzero (xs ++ ys) → AllNonzero xs
front_nonzero [] ys h = tt
front_nonzero (t ∷ ts) ys h = (h.0, front_nonzero ts ys h.1)

front_sorted : (xs ys : List Term) (a b : ℤ) → IsSorted (form (xs ++ ys) a) → IsSorted (form xs b)
front_sorted xs ys a b s = record { rising = front_rising xs ys s.rising; nonzero = front_nonzero xs ys s.nonzero }

fit_both : (xs ys : List Term) → AllInLimit xs → AllInLimit ys → AllInLimit (xs ++ ys)
fit_both [] ys h k = k
fit_both (t ∷ ts) ys h k = (h.0, fit_both ts ys h.1 k)

-- ---- sums

-- each name of the terms has its number
abbrev pub AreNumbered : List (List ℕ) → (List ℕ → ℕ) → List Term → Type 0
AreNumbered names number us = AllByRecursion (λ (u : Term). number (name_at names u.name) ≡ u.name) us

module _ (c : Context) (number : List ℕ → ℕ) (names : List (List ℕ)) where
  -- a constant added at the end
  constant_added : (done : List Term) (k : ℤ) → AllInLimit done → InLimit k → IsSorted (form done k) → added (forms c number) (whole (form done (pos 0))) (terms_of (later_constant_terms k)) ≡ Ok (whole (form done k))
  constant_added done k h f s = go (int_eq k (pos 0)) refl
    where
      nothing_more : sum_of_forms (whole (form done (pos 0))) (whole (form [] k)) ≡ Ok (whole (form done k))
      nothing_more =
          let same : both (form done (pos 0)) (form [] k) ≡ form done k = λ i. form (append-nil done i) (zero_add k i) in
          sum_whole (form done (pos 0)) (form [] k) (zero_fits, h) (f, tt) (subst IsFormInLimit (sym same) (f, h)) (subst IsSorted (sym same) s) ∙ ap (λ g. Ok (whole g)) same

      go : (b : Bool) → int_eq k (pos 0) ≡ b → added (forms c number) (whole (form done (pos 0))) (terms_of (if b then [] else constant_term k ∷ [])) ≡ Ok (whole (form done k))
      go true e = ap (λ z. Ok (whole (form done z))) (sym (is_zero k e))
      go false e = follows _ _ _ (constant_formed c number k) ∙ follows _ _ _ nothing_more

  -- the members behind some that are added up already
  members_added : (done us : List Term) (k : ℤ) → AllInLimit done → AllInLimit us → InLimit k → IsSorted (form (done ++ us) k) → AreNumbered names number us
      → added (forms c number) (whole (form done (pos 0))) (terms_of (map (multiple_term names) us ++ later_constant_terms k)) ≡ Ok (whole (form (done ++ us) k))
  members_added done [] k h m f s n =
      let same : done ++ [] ≡ done = append-nil done in
      constant_added done k h f (subst (λ ts. IsSorted (form ts k)) same s) ∙ ap (λ ts. Ok (whole (form ts k))) (sym same)
  members_added done (u ∷ us) k h m f s n =
      let assoc : (done ++ u ∷ []) ++ us ≡ done ++ u ∷ us = append_assoc done (u ∷ []) us in
      let sorted : IsSorted (form ((done ++ u ∷ []) ++ us) k) = subst (λ ts. IsSorted (form ts k)) (sym assoc) s in
      let front : IsSorted (form (done ++ u ∷ []) (pos 0)) = front_sorted (done ++ u ∷ []) us k (pos 0) sorted in
      let fits : AllInLimit (done ++ u ∷ []) = fit_both done (u ∷ []) h (m.0, tt) in
      follows _ _ _ (multiple_formed c number names u m.0 (last_nonzero done us k u s) n.0)
      ∙ follows _ _ _ (sum_whole (form done (pos 0)) (form (u ∷ []) (pos 0)) (zero_fits, h) (zero_fits, (m.0, tt)) (zero_fits, fits) front)
      ∙ members_added (done ++ u ∷ []) us k fits m.1 f sorted n.1 ∙ ap (λ ts. Ok (whole (form ts k))) assoc

  pub sum_formed : (f : Form) → IsFormInLimit f → IsSorted f → AreNumbered names number f.terms → formed c number (form_term names f) ≡ Ok (whole f)
  sum_formed f h s n = go f.terms f.constant h s n
    where
      one : (u : Term) (k : ℤ) (b : Bool) → int_eq k (pos 0) ≡ b → IsFormInLimit (form (u ∷ []) k) → IsSorted (form (u ∷ []) k) → AreNumbered names number (u ∷ [])
          → added (forms c number) (whole (form [] (pos 0))) (terms_of (multiple_term names u ∷ (if b then [] else constant_term k ∷ []))) ≡ Ok (whole (form (u ∷ []) k))
          → formed c number (sum_of (multiple_term names u ∷ (if b then [] else constant_term k ∷ []))) ≡ Ok (whole (form (u ∷ []) k))
      one u k true e h s n whole_sum = multiple_formed c number names u h.1.0 s.nonzero.0 n.0 ∙ ap (λ z. Ok (whole (form (u ∷ []) z))) (sym (is_zero k e))
      one u k false e h s n whole_sum = whole_sum

      go : (ts : List Term) (k : ℤ) → IsFormInLimit (form ts k) → IsSorted (form ts k) → AreNumbered names number ts → formed c number (sum_of (member_terms names ts k)) ≡ Ok (whole (form ts k))
      go [] k h s n = constant_formed c number k
      go (u ∷ []) k h s n = one u k (int_eq k (pos 0)) refl h s n (members_added [] (u ∷ []) k tt h.1 h.0 s n)
      go (u ∷ w ∷ us) k h s n = members_added [] (u ∷ w ∷ us) k tt h.1 h.0 s n

  opposite_zero : scale (negsuc 0) (form [] (pos 0)) ≡ form [] (pos 0)
  unfolding scale
  opposite_zero = ap (form []) (mul_zero (negsuc 0))

  -- the difference of the sum and 0
  pub difference_formed : (f : Form) → IsFormInLimit f → IsSorted f → AreNumbered names number f.terms → formed_difference c number (form_term names f) (number_term 0) ≡ Ok (whole f)
  difference_formed f h s n =
      let same : both f (form [] (pos 0)) ≡ f = λ i. form (append-nil f.terms i) (add_zero f.constant i) in
      follows _ _ _ (sum_formed f h s n) ∙ ap (λ g. sum_of_forms (whole f) (whole g)) opposite_zero
      ∙ sum_whole f (form [] (pos 0)) h (zero_fits, tt) (subst IsFormInLimit (sym same) h) (subst IsSorted (sym same) s) ∙ ap (λ g. Ok (whole g)) same
