-- Why a form is not there: the cause that is told stands in the term.
use Rattle.std.proofs.Common.{◌≡◌, ◌<◌, ◌⊎◌, inl, inr, ⊎_elim, ℕ, zero, suc, List, Bool, true, false, Option, Some, None, ap, sym, ◌∙◌, subst, refl, arith, if◌then◌else◌}
use Rattle.std.proofs.Math.IntN.{ℤ, pos, ◌*ℤ◌}
use Rattle.std.specs.Prelude.{unsigned_abs, int_div, Result, Ok, Err}
use Rattle.std.specs.List.{list_all}
use Rattle.std.specs.Ordering.{int_eq}
use Rattle.std.proofs.lemmas.Bool.Decides.{Decides-int_eq}
use Rattle.exact_numbers.specs.Divides.{lcm_of}
use Rattle.exact_numbers.specs.Frac.{Frac, whole_frac, inverted, power_steps}
use Rattle.logic_meaning.specs.Context.{Context, Fields, Integers}
use Rattle.logic_meaning.specs.Form.{Form, scale, combine}
use Rattle.logic_meaning.specs.Sorted.{gathered}
use Rattle.logic_meaning.specs.Limits.{is_within}
use Rattle.language_meaning.specs.declared.tree.Literal.{Literal}
use Rattle.language_meaning.specs.declared.tree.Literal.TheVariants.{Fits, Past}
use Rattle.language_meaning.specs.Trees.{TermTree, TermTrees, Number, Named, Sum, Product, Quotient, Power, Negative, none, also}
use Rattle.language_meaning.specs.FractionRule.{added, multiplied, ◌>>=◌}
use Rattle.language_meaning.specs.RationalForms.{RationalForm, Missing, Overflow, Nonlinear, Division, numbers_of, formed_number, formed_form, lowest_form, is_constant, constant_form, constant_of, sum_of_forms, multiple_of_form, product_of_forms, quotient_of_forms, small_power, as_constant, power_of_form, opposite_form, literal_form, forms, formed}
use Rattle.language_meaning.specs.Causes.{IsAboveOne, MultipliesNames, HaveNonlinear, HaveForbidden}
use Rattle.resolved_formulas.specs.ResolvedLaws.{HasCause, MissingHasCause}

-- where two calculations one after the other stop
bind_err : {A B E : Type 0} (r : Result A E) (f : A → Result B E) (e : E) → (r >>= f) ≡ Err e → (r ≡ Err e) ⊎ ((x : A) × (r ≡ Ok x) × (f x ≡ Err e))
bind_err (Ok x) f e h = inr (x, refl, h)
bind_err (Err d) f e h = let p : d ≡ e = cc in inl (ap Err p)

number_missing : (z : ℤ) (e : Missing) → formed_number z ≡ Err e → e ≡ Overflow
unfolding formed_number
number_missing z e h = go (is_within z) h
  where
    go : (b : Bool) → (let r : Result ℤ Missing = if b then Ok z else Err Overflow in r) ≡ Err e → e ≡ Overflow
    go true h = absurd (cc)
    go false h = cc

form_missing : (f : Form) (e : Missing) → formed_form f ≡ Err e → e ≡ Overflow
unfolding formed_form
form_missing f e h = go (list_all is_within (numbers_of f)) h
  where
    go : (b : Bool) → (let r : Result Form Missing = if b then Ok f else Err Overflow in r) ≡ Err e → e ≡ Overflow
    go true h = absurd (cc)
    go false h = cc

there_err : (v : RationalForm) (e : Missing) → (let r : Result RationalForm Missing = Ok v in r) ≡ Err e → e ≡ Overflow
there_err v e h = absurd (cc)

-- sums and products by constants stop at numbers past the limit alone
sum_missing : (a b : RationalForm) (e : Missing) → sum_of_forms a b ≡ Err e → e ≡ Overflow
unfolding sum_of_forms
sum_missing a b e h =
    ⊎_elim (number_missing _ e) (λ x.
    ⊎_elim (form_missing _ e) (λ y.
    ⊎_elim (form_missing _ e) (λ z.
    ⊎_elim (form_missing _ e) (λ w. there_err (lowest_form w.0 x.0) e w.2)
    (bind_err (formed_form (gathered (combine (pos 1) y.0 (pos 1) z.0))) _ e z.2))
    (bind_err (formed_form (scale (int_div x.0 b.denominator) b.form)) _ e y.2))
    (bind_err (formed_form (scale (int_div x.0 a.denominator) a.form)) _ e x.2))
    (bind_err (formed_number (lcm_of a.denominator b.denominator)) _ e h)

multiple_missing : (a : RationalForm) (k : Frac) (e : Missing) → multiple_of_form a k ≡ Err e → e ≡ Overflow
unfolding multiple_of_form
multiple_missing a k e h =
    ⊎_elim (form_missing _ e) (λ x.
    ⊎_elim (number_missing _ e) (λ y. there_err (lowest_form x.0 y.0) e y.2)
    (bind_err (formed_number (a.denominator *ℤ k.denominator)) _ e x.2))
    (bind_err (formed_form (gathered (scale k.numerator a.form))) _ e h)

-- a product of two forms stops there, or multiplies names
product_missing : (a b : RationalForm) (e : Missing) → product_of_forms a b ≡ Err e → (e ≡ Overflow) ⊎ ((e ≡ Nonlinear) × (is_constant a ≡ false) × (is_constant b ≡ false))
unfolding product_of_forms
product_missing a b e h = go (is_constant b) (is_constant a) refl refl h
  where
    go : (x y : Bool) → is_constant b ≡ x → is_constant a ≡ y → (if x then multiple_of_form a (constant_of b) else if y then multiple_of_form b (constant_of a) else Err Nonlinear) ≡ Err e
        → (e ≡ Overflow) ⊎ ((e ≡ Nonlinear) × (is_constant a ≡ false) × (is_constant b ≡ false))
    go true y i j h = inl (multiple_missing a (constant_of b) e h)
    go false true i j h = inl (multiple_missing b (constant_of a) e h)
    go false false i j h = let p : e ≡ Nonlinear = cc in inr (p, j, i)

-- ---- causes in a list

abbrev HaveCause : Context → (List ℕ → ℕ) → TermTrees → Missing → Type 0
HaveCause c number ts Overflow = Unit {0}
HaveCause c number ts Nonlinear = HaveNonlinear c number ts
HaveCause c number ts Division = HaveForbidden c number ts

-- a product after a form
abbrev MultipliesCause : Context → (List ℕ → ℕ) → RationalForm → TermTrees → Missing → Type 0
MultipliesCause c number before ts Overflow = Unit {0}
MultipliesCause c number before ts Nonlinear = MultipliesNames c number (Ok before) ts ⊎ HaveNonlinear c number ts
MultipliesCause c number before ts Division = HaveForbidden c number ts

module _ (c : Context) (number : List ℕ → ℕ) where
  of_first : (t : TermTree) (ts : TermTrees) (e : Missing) → HasCause c number t e → HaveCause c number (also t ts) e
  of_first t ts Overflow h = tt
  of_first t ts Nonlinear h = inl h
  of_first t ts Division h = inl h

  of_rest : (t : TermTree) (ts : TermTrees) (e : Missing) → HaveCause c number ts e → HaveCause c number (also t ts) e
  of_rest t ts Overflow h = tt
  of_rest t ts Nonlinear h = inr h
  of_rest t ts Division h = inr h

  overflow_have : (ts : TermTrees) (e : Missing) → e ≡ Overflow → HaveCause c number ts e
  overflow_have ts e p = subst (HaveCause c number ts) (sym p) tt

  of_sum : (ts : TermTrees) (e : Missing) → HaveCause c number ts e → HasCause c number (Sum ts) e
  of_sum ts Overflow h = tt
  of_sum ts Nonlinear h = h
  of_sum ts Division h = h

  of_product : (ts : TermTrees) (e : Missing) → MultipliesCause c number (constant_form (whole_frac (pos 1))) ts e → HasCause c number (Product ts) e
  of_product ts Overflow h = tt
  of_product ts Nonlinear h = h
  of_product ts Division h = h

  of_member : (a : RationalForm) (t : TermTree) (ts : TermTrees) (e : Missing) → HasCause c number t e → MultipliesCause c number a (also t ts) e
  of_member a t ts Overflow h = tt
  of_member a t ts Nonlinear h = inr (inl h)
  of_member a t ts Division h = inl h

  overflow_multiplies : (a : RationalForm) (ts : TermTrees) (e : Missing) → e ≡ Overflow → MultipliesCause c number a ts e
  overflow_multiplies a ts e p = subst (MultipliesCause c number a ts) (sym p) tt

  names_multiply : (a v : RationalForm) (t : TermTree) (ts : TermTrees) (e : Missing) → formed c number t ≡ Ok v → (e ≡ Nonlinear) × (is_constant a ≡ false) × (is_constant v ≡ false) → MultipliesCause c number a (also t ts) e
  names_multiply a v t ts e i h = subst (MultipliesCause c number a (also t ts)) (sym h.0) (inl (inl (record { form = a; there = refl; varies = h.1 }, record { form = v; there = i; varies = h.2 })))

  later_members : (a v r : RationalForm) (t : TermTree) (ts : TermTrees) (e : Missing) → formed c number t ≡ Ok v → product_of_forms a v ≡ Ok r → MultipliesCause c number r ts e → MultipliesCause c number a (also t ts) e
  later_members a v r t ts Overflow i j h = tt
  later_members a v r t ts Division i j h = inr h
  later_members a v r t ts Nonlinear i j (inr h) = inr (inr h)
  later_members a v r t ts Nonlinear i j (inl h) =
      let p : (formed c number t >>= λ q. product_of_forms a q) ≡ Ok r = ap (λ x. x >>= λ q. product_of_forms a q) i ∙ j in
      inl (inr (subst (λ x. MultipliesNames c number x ts) (sym p) h))

  of_dividend : (s t : TermTree) (e : Missing) → HasCause c number s e → HasCause c number (Quotient s t) e
  of_dividend s t Overflow h = tt
  of_dividend s t Nonlinear h = inl h
  of_dividend s t Division h = inr (inl h)

  of_divisor : (s t : TermTree) (e : Missing) → HasCause c number t e → HasCause c number (Quotient s t) e
  of_divisor s t Overflow h = tt
  of_divisor s t Nonlinear h = inr h
  of_divisor s t Division h = inr (inr h)

  of_base : (t : TermTree) (n : Literal) (e : Missing) → HasCause c number t e → HasCause c number (Power t n) e
  of_base t n Overflow h = tt
  of_base t n Nonlinear h = inr h
  of_base t n Division h = h

  of_negative : (t : TermTree) (e : Missing) → HasCause c number t e → HasCause c number (Negative t) e
  of_negative t Overflow h = tt
  of_negative t Nonlinear h = h
  of_negative t Division h = h

  overflow_has : (t : TermTree) (e : Missing) → e ≡ Overflow → HasCause c number t e
  overflow_has t e p = subst (HasCause c number t) (sym p) tt

-- ---- quotients and powers

no_divisor : (number : List ℕ → ℕ) (s t : TermTree) (a b : RationalForm) (e : Missing) → formed Fields number t ≡ Ok b → quotient_of_forms Fields a b ≡ Err e → HasCause Fields number (Quotient s t) e
unfolding quotient_of_forms
no_divisor number s t a b e i h = go (is_constant b) (int_eq b.form.constant (pos 0)) refl refl h
  where
    forbidden : e ≡ Division → (is_constant b ≡ false) ⊎ (b.form.constant ≡ pos 0) → HasCause Fields number (Quotient s t) e
    forbidden p f = subst (HasCause Fields number (Quotient s t)) (sym p) (inl (record { form = b; there = i; fails = f }))

    go : (x y : Bool) → is_constant b ≡ x → int_eq b.form.constant (pos 0) ≡ y → (if x then (if y then Err Division else multiple_of_form a (inverted (constant_of b))) else Err Division) ≡ Err e → HasCause Fields number (Quotient s t) e
    go true true j k h = forbidden (cc) (inr ((Decides-int_eq b.form.constant (pos 0)).0 k))
    go true false j k h = overflow_has Fields number (Quotient s t) e (multiple_missing a (inverted (constant_of b)) e h)
    go false y j k h = forbidden (cc) (inl j)

quotient_missing : (c : Context) (number : List ℕ → ℕ) (s t : TermTree) (a b : RationalForm) (e : Missing) → formed c number t ≡ Ok b → quotient_of_forms c a b ≡ Err e → HasCause c number (Quotient s t) e
unfolding quotient_of_forms
quotient_missing Fields number s t a b e i h = no_divisor number s t a b e i h
quotient_missing Integers number s t a b e i h = let p : e ≡ Division = cc in subst (HasCause Integers number (Quotient s t)) (sym p) (inl tt)

constant_missing : (o : Option Frac) (e : Missing) → as_constant o ≡ Err e → e ≡ Overflow
constant_missing None e h = cc
constant_missing (Some u) e h = absurd (cc)

small_missing : (a : RationalForm) (k : ℕ) (e : Missing) → small_power a k ≡ Err e → (e ≡ Nonlinear) × (1 < k)
small_missing a zero e h = absurd (cc)
small_missing a (suc zero) e h = absurd (cc)
small_missing a (suc (suc k)) e h = (cc, omega arith)

raises_names : (c : Context) (number : List ℕ → ℕ) (t : TermTree) (n : Literal) (a : RationalForm) (e : Missing) → formed c number t ≡ Ok a → is_constant a ≡ false → e ≡ Nonlinear → IsAboveOne n → HasCause c number (Power t n) e
raises_names c number t n a e i j p m = subst (HasCause c number (Power t n)) (sym p) (inl (record { form = a; there = i; varies = j }, m))

power_missing : (c : Context) (number : List ℕ → ℕ) (t : TermTree) (n : Literal) (a : RationalForm) (e : Missing) → formed c number t ≡ Ok a → power_of_form a n ≡ Err e → HasCause c number (Power t n) e
unfolding power_of_form
power_missing c number t (Fits n) a e i h = go (is_constant a) refl h
  where
    go : (b : Bool) → is_constant a ≡ b → (if b then as_constant (power_steps (constant_of a) (unsigned_abs n)) else small_power a (unsigned_abs n)) ≡ Err e → HasCause c number (Power t (Fits n)) e
    go true j h = overflow_has c number (Power t (Fits n)) e (constant_missing (power_steps (constant_of a) (unsigned_abs n)) e h)
    go false j h = let k = small_missing a (unsigned_abs n) e h in raises_names c number t (Fits n) a e i j k.0 k.1
power_missing c number t Past a e i h = go (is_constant a) refl h
  where
    go : (b : Bool) → is_constant a ≡ b → (let x : Result RationalForm Missing = if b then Err Overflow else Err Nonlinear in x) ≡ Err e → HasCause c number (Power t Past) e
    go true j h = overflow_has c number (Power t Past) e (cc)
    go false j h = raises_names c number t Past a e i j (cc) tt

literal_missing : (n : Literal) (e : Missing) → literal_form n ≡ Err e → e ≡ Overflow
literal_missing (Fits n) e h = absurd (cc)
literal_missing Past e h = cc

-- ---- terms

module _ (c : Context) (number : List ℕ → ℕ) where
  mutual
    missing : (t : TermTree) (e : Missing) → formed c number t ≡ Err e → HasCause c number t e
    missing (Number n) e h = overflow_has c number (Number n) e (literal_missing n e h)
    missing (Named x) e h = absurd (cc)
    missing (Sum ts) e h = of_sum c number ts e (sum_stops ts (constant_form (whole_frac (pos 0))) e h)
    missing (Product ts) e h = of_product c number ts e (product_stops ts (constant_form (whole_frac (pos 1))) e h)
    missing (Quotient s t) e h =
        ⊎_elim (λ i. of_dividend c number s t e (missing s e i)) (λ a.
        ⊎_elim (λ i. of_divisor c number s t e (missing t e i)) (λ b. quotient_missing c number s t a.0 b.0 e b.1 b.2)
        (bind_err (formed c number t) (λ y. quotient_of_forms c a.0 y) e a.2))
        (bind_err (formed c number s) (λ x. formed c number t >>= λ y. quotient_of_forms c x y) e h)
    missing (Power t n) e h =
        ⊎_elim (λ i. of_base c number t n e (missing t e i)) (λ a. power_missing c number t n a.0 e a.1 a.2) (bind_err (formed c number t) (λ x. power_of_form x n) e h)
    missing (Negative t) e h =
        ⊎_elim (λ i. of_negative c number t e (missing t e i)) (λ a. overflow_has c number (Negative t) e (there_err (opposite_form a.0) e a.2))
        (bind_err (formed c number t) (λ x. Ok (opposite_form x)) e h)

    sum_stops : (ts : TermTrees) (total : RationalForm) (e : Missing) → added (forms c number) total ts ≡ Err e → HaveCause c number ts e
    sum_stops none total e h = overflow_have c number none e (there_err total e h)
    sum_stops (also t ts) total e h =
        ⊎_elim (λ i. of_first c number t ts e (missing t e i)) (λ a.
        ⊎_elim (λ i. overflow_have c number (also t ts) e (sum_missing total a.0 e i)) (λ b. of_rest c number t ts e (sum_stops ts b.0 e b.2))
        (bind_err (sum_of_forms total a.0) (λ sum. added (forms c number) sum ts) e a.2))
        (bind_err (formed c number t) (λ v. sum_of_forms total v >>= λ sum. added (forms c number) sum ts) e h)

    product_stops : (ts : TermTrees) (total : RationalForm) (e : Missing) → multiplied (forms c number) total ts ≡ Err e → MultipliesCause c number total ts e
    product_stops none total e h = overflow_multiplies c number total none e (there_err total e h)
    product_stops (also t ts) total e h =
        ⊎_elim (λ i. of_member c number total t ts e (missing t e i)) (λ a.
        ⊎_elim (λ i. ⊎_elim (overflow_multiplies c number total (also t ts) e) (names_multiply c number total a.0 t ts e a.1) (product_missing total a.0 e i))
        (λ b. later_members c number total a.0 b.0 t ts e a.1 b.1 (product_stops ts b.0 e b.2))
        (bind_err (product_of_forms total a.0) (λ product. multiplied (forms c number) product ts) e a.2))
        (bind_err (formed c number t) (λ v. product_of_forms total v >>= λ product. multiplied (forms c number) product ts) e h)

pub missing_has_cause : MissingHasCause
missing_has_cause = missing
