-- Which numbers and forms are formed.
use Rattle.std.proofs.Common.{◌≡◌, ◌⊎◌, inl, inr, ℕ, true, List, [], ◌∷◌, ap, sym, subst, refl, arith}
use Rattle.std.proofs.Math.IntN.{ℤ}
use Rattle.std.specs.Prelude.{Result, Ok, Err}
use Rattle.std.specs.List.{list_all}
use Rattle.std.proofs.lemmas.Bool.{cases_Bool, cases_eq, lt-ltb, le-ltb, ltb-true, and_from, and_parts, cond-true, cond-false}
use Rattle.std.proofs.lemmas.Int.{ints}
use Rattle.exact_numbers.specs.Limit.{InLimit, PastLimit}
use Rattle.logic_meaning.specs.Form.{Form, Term, multiple, coefficients, coefficient}
use Rattle.logic_meaning.specs.Sorted.{IsRising}
use Rattle.formula_laws.proofs.Sorted.{here, elsewhere, multiple_above}
use Rattle.logic_meaning.specs.Terms.{AllInLimit}
use Rattle.linear_forms.proofs.Search.{multiple_within}
use Rattle.language_meaning.specs.FractionRule.{◌>>=◌}
use Rattle.logic_meaning.specs.Limits.{is_within}
use Rattle.language_meaning.specs.RationalForms.{Overflow, numbers_of, formed_number, formed_form}

-- what two calculations one after the other give
pub then_ok : {A B E : Type 0} (r : Result A E) (x : A) (f : A → Result B E) → r ≡ Ok x → (r >>= f) ≡ f x
then_ok r x f e = ap (λ s. s >>= f) e

pub then_err : {A B E : Type 0} (r : Result A E) (x : E) (f : A → Result B E) → r ≡ Err x → (r >>= f) ≡ Err x
then_err r x f e = ap (λ s. s >>= f) e

pub number_within : (z : ℤ) → InLimit z → formed_number z ≡ Ok z
unfolding formed_number
number_within z h = cond-true (is_within z) (Ok z) (Err Overflow) (lt-ltb _ _ h)

pub number_past : (z : ℤ) → PastLimit z → formed_number z ≡ Err Overflow
unfolding formed_number
number_past z h = cond-false (is_within z) (Ok z) (Err Overflow) (le-ltb _ _ h)

-- ---- forms

-- each number is within the limit
pub record IsFormWithin (f : Form) : Type 0 where
  pub terms : AllInLimit f.terms
  pub constant : InLimit f.constant

all_pass : (ts : List Term) → AllInLimit ts → list_all is_within (coefficients ts) ≡ true
all_pass [] w = refl
all_pass (t ∷ ts) w = and_from _ _ (lt-ltb _ _ w.0) (all_pass ts w.1)

pass_all : (ts : List Term) → list_all is_within (coefficients ts) ≡ true → AllInLimit ts
pass_all [] e = tt
pass_all (t ∷ ts) e = let p = and_parts (is_within t.times) (list_all is_within (coefficients ts)) e in (ltb-true _ _ p.0, pass_all ts p.1)

pub form_within : (f : Form) → IsFormWithin f → formed_form f ≡ Ok f
unfolding formed_form
form_within f w = cond-true (list_all is_within (numbers_of f)) (Ok f) (Err Overflow) (and_from _ _ (lt-ltb _ _ w.constant) (all_pass f.terms w.terms))

-- a form is formed, and its numbers are within the limit, or it isn't
pub form_cases : (f : Form) → (IsFormWithin f × (formed_form f ≡ Ok f)) ⊎ (formed_form f ≡ Err Overflow)
unfolding formed_form
form_cases f = elim (cases_Bool (list_all is_within (numbers_of f))) [
  | inl e ↦
      let p = and_parts (is_within f.constant) (list_all is_within (coefficients f.terms)) e in
      inl (record { terms = pass_all f.terms p.1; constant = ltb-true _ _ p.0 }, cond-true (list_all is_within (numbers_of f)) (Ok f) (Err Overflow) e)
  | inr e ↦ inr (cond-false (list_all is_within (numbers_of f)) (Ok f) (Err Overflow) e)
]

-- ---- sorted forms

pub constant_past : (f : Form) → PastLimit f.constant → formed_form f ≡ Err Overflow
constant_past f h = elim (form_cases f) [ inl p ↦ (let w = p.0.constant in absurd (omega arith)) | inr e ↦ e ]

pub coefficient_past : (x : ℕ) (f : Form) → IsRising f.terms → PastLimit (coefficient x f) → formed_form f ≡ Err Overflow
unfolding coefficient
coefficient_past x f r h = elim (form_cases f) [ inl p ↦ (let w = multiple_within x f.terms r p.0.terms in absurd (omega arith)) | inr e ↦ e ]

pub coefficient_within : (x : ℕ) (f : Form) → IsRising f.terms → IsFormWithin f → InLimit (coefficient x f)
unfolding coefficient
coefficient_within x f r w = multiple_within x f.terms r w.terms

-- the terms of a rising list are within the limit where the multiples of all names are
terms_within : (ts : List Term) → IsRising ts → ((x : ℕ) → InLimit (multiple x ts)) → AllInLimit ts
terms_within [] r h = tt
terms_within (t ∷ ts) r h = (subst (λ (z : ℤ). InLimit z) (here t.name t ts refl r.0) (h t.name), terms_within ts r.1 later)
  where
    later : (x : ℕ) → InLimit (multiple x ts)
    later x = elim (cases_eq t.name x) [
      | inl e ↦ subst (λ (y : ℕ). InLimit (multiple y ts)) e (subst (λ (z : ℤ). InLimit z) (sym (multiple_above t.name ts r.0)) (omega (arith, ints)))
      | inr n ↦ subst (λ (z : ℤ). InLimit z) (elsewhere x t ts n) (h x)
    ]

pub by_coefficients : (f : Form) → IsRising f.terms → ((x : ℕ) → InLimit (coefficient x f)) → InLimit f.constant → IsFormWithin f
unfolding coefficient
by_coefficients f r h k = record { terms = terms_within f.terms r h; constant = k }
