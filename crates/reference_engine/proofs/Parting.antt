-- The terms of a form with a point put in: those that stay, and those that become a number.
use Rattle.std.proofs.Common.{◌≡◌, ℕ, ◌+◌, drop, slice_get, Bool, true, false, ◌&&◌, List, [], ◌∷◌, ◌++◌, append_assoc, Option, Some, None, refl, sym, ap, ◌∙◌, subst, arith, nat_eq, reverse}
use Rattle.std.proofs.Math.IntN.{ℤ, pos, ◌+ℤ◌, ◌*ℤ◌}
use Rattle.std.proofs.lemmas.Int.{ints}
use Rattle.std.proofs.lemmas.List.{append-nil, reverse-append}
use Rattle.std.proofs.lemmas.Option.{slice_get_within, get_or_from_slice_get}
use Rattle.std.specs.Prelude.{◌<ℤ◌, is_some, if◌then◌else◌, Result, MatchResult}
use Rattle.std.specs.declared.result.Result.TheVariants.{Err}
use Rattle.exact_numbers.specs.Limit.{InLimit, PastLimit}
use Rattle.exact_numbers.proofs.Limits.{by_limit, checked_some}
use Rattle.exact_numbers.proofs.Order.{cancel}
use Rattle.exact_numbers.proofs.Ring.{mul_zero}
use Rattle.logic_meaning.specs.Form.{Form, Term, total, value}
use Rattle.logic_meaning.specs.Point.{Point}
use Rattle.logic_meaning.specs.Shape.{is_in}
use Rattle.logic_meaning.specs.Sorted.{AllAbove, IsRising, AllNonzero}
use Rattle.formula_laws.proofs.Same.{and_left, and_right, both_true}
use Rattle.logic_meaning.specs.Limits.{each, is_within}
use Rattle.logic_meaning.specs.PutIn.{terms_kept, terms_put, terms_out, form_put, form_put_within}
use Rattle.logic_meaning.specs.Terms.{AllInLimit, total_steps, value_steps}
use Rattle.linear_forms.specs.Combinations.{IsLinear}
use Rattle.linear_forms.specs.Values.{Numbers, number_at, point_of}
use Rattle.linear_forms.proofs.Steps.{value_total_none, value_product_none, value_last}
use Rattle.test_points.proofs.Ended.{first_false}
use Rattle.elimination_theory.proofs.WithinTests.{within_tests}
use Rattle.test_points.specs.declared.error.PointError.{PointError}
use Rattle.nnf_trees.specs.Placed.{Fails}
use Rattle.nnf_trees.proofs.Counting.{drop_at}
use Rattle.reference_engine.proofs.Paying.{is_past_limit}
use Rattle.reference_engine.specs.Put.{kept_within, IsParted, IsFormPut}

-- the order of names does not matter
in_appended : (y : ℕ) (xs : List ℕ) (x : ℕ) → is_in nat_eq y (xs ++ x ∷ []) ≡ is_in nat_eq y (x ∷ xs)
in_appended y [] x = refl
in_appended y (z ∷ xs) x = ap (λ b. if nat_eq y z then true else b) (in_appended y xs x) ∙ go (nat_eq y z) (nat_eq y x) (is_in nat_eq y xs)
  where
    go : (a b c : Bool) → (if a then true else (if b then true else c)) ≡ (if b then true else (if a then true else c))
    go true true c = refl
    go true false c = refl
    go false b c = refl

pub in_reverse : (y : ℕ) (xs : List ℕ) → is_in nat_eq y (reverse xs) ≡ is_in nat_eq y xs
in_reverse y [] = refl
in_reverse y (x ∷ xs) = ap (is_in nat_eq y) (reverse-append (x ∷ []) xs) ∙ in_appended y (reverse xs) x ∙ ap (λ b. if nat_eq y x then true else b) (in_reverse y xs)

-- the term at a place, and those behind it
pub next_term : (ts : List Term) (i : ℕ) (t : Term) → slice_get ts i ≡ Some t → drop i ts ≡ t ∷ drop (i + 1) ts
next_term ts i t e = drop_at ts i t (slice_get_within ts i t e) (sym (get_or_from_slice_get ts i t t e))

-- the terms before those left are parted
pub record IsPartedBefore (p : Point ℕ) (names : List ℕ) (all kept out rest : List Term) : Type 0 where
  pub stay : kept ++ terms_kept p names rest ≡ terms_kept p names all
  pub become : out ++ terms_out p names rest ≡ terms_out p names all
  pub within : kept_within p names rest ≡ kept_within p names all

module _ (p : Point ℕ) (names : List ℕ) where
  -- the term times the denominator
  abbrev pub multiplied : Term → Term
  multiplied t = record { times = pos p.below *ℤ t.times; name = t.name }

  kept_here : (t : Term) (ts : List Term) → is_in nat_eq t.name names ≡ true → terms_kept p names (t ∷ ts) ≡ multiplied t ∷ terms_kept p names ts
  kept_here t ts e = ap (λ (b : Bool). if b then multiplied t ∷ terms_kept p names ts else terms_kept p names ts) e

  kept_not : (t : Term) (ts : List Term) → is_in nat_eq t.name names ≡ false → terms_kept p names (t ∷ ts) ≡ terms_kept p names ts
  kept_not t ts e = ap (λ (b : Bool). if b then multiplied t ∷ terms_kept p names ts else terms_kept p names ts) e

  out_here : (t : Term) (ts : List Term) → is_in nat_eq t.name names ≡ false → terms_out p names (t ∷ ts) ≡ t ∷ terms_out p names ts
  out_here t ts e = ap (λ (b : Bool). if b then terms_out p names ts else t ∷ terms_out p names ts) e

  out_not : (t : Term) (ts : List Term) → is_in nat_eq t.name names ≡ true → terms_out p names (t ∷ ts) ≡ terms_out p names ts
  out_not t ts e = ap (λ (b : Bool). if b then terms_out p names ts else t ∷ terms_out p names ts) e

  abbrev all_within : List Term → Bool
  all_within ts = each (λ (t : Term). is_within t.times) ts

  one_behind : (xs ys zs : List Term) (t : Term) → ys ≡ xs ++ t ∷ [] → ys ++ zs ≡ xs ++ t ∷ zs
  one_behind xs ys zs t e = ap (λ us. us ++ zs) e ∙ append_assoc xs (t ∷ []) zs

  pub part_kept : (all kept kept2 out ts : List Term) (t : Term) → IsPartedBefore p names all kept out (t ∷ ts) → is_in nat_eq t.name names ≡ true → InLimit (pos p.below *ℤ t.times) → kept2 ≡ kept ++ multiplied t ∷ [] →
      IsPartedBefore p names all kept2 out ts
  part_kept all kept kept2 out ts t h e w m = record {
    stay = one_behind kept kept2 (terms_kept p names ts) (multiplied t) m ∙ ap (λ us. kept ++ us) (sym (kept_here t ts e)) ∙ h.stay;
    become = ap (λ us. out ++ us) (sym (out_not t ts e)) ∙ h.become;
    within = sym (ap all_within (kept_here t ts e) ∙ ap (λ b. b && kept_within p names ts) ((within_tests (pos p.below *ℤ t.times)).1 w)) ∙ h.within;
  }

  pub part_out : (all kept out out2 ts : List Term) (t : Term) → IsPartedBefore p names all kept out (t ∷ ts) → is_in nat_eq t.name names ≡ false → out2 ≡ out ++ t ∷ [] → IsPartedBefore p names all kept out2 ts
  part_out all kept out out2 ts t h e m = record {
    stay = ap (λ us. kept ++ us) (sym (kept_not t ts e)) ∙ h.stay;
    become = one_behind out out2 (terms_out p names ts) t m ∙ ap (λ us. out ++ us) (sym (out_here t ts e)) ∙ h.become;
    within = sym (ap all_within (kept_not t ts e)) ∙ h.within;
  }

  pub part_refused : (all kept out ts : List Term) (t : Term) → IsPartedBefore p names all kept out (t ∷ ts) → is_in nat_eq t.name names ≡ true → PastLimit (pos p.below *ℤ t.times) → kept_within p names all ≡ false
  part_refused all kept out ts t h e w =
      let z = pos p.below *ℤ t.times in
      sym h.within ∙ ap all_within (kept_here t ts e) ∙ first_false (is_within z) (kept_within p names ts) (is_past_limit z w)

  pub parted_first : (all : List Term) → IsPartedBefore p names all [] [] all
  parted_first all = record { stay = refl; become = refl; within = refl }

  pub parted_last : (all kept out rest : List Term) → IsPartedBefore p names all kept out rest → rest ≡ [] → IsParted p names all kept out
  parted_last all kept out rest h e = record {
    stay = sym (append-nil kept) ∙ ap (λ ts. kept ++ terms_kept p names ts) (sym e) ∙ h.stay;
    become = sym (append-nil out) ∙ ap (λ ts. out ++ terms_out p names ts) (sym e) ∙ h.become;
    within = sym h.within ∙ ap (kept_within p names) e;
  }

  -- ---- the parts of a sorted form within the limit are such forms

  out_of : (P : List Term → Type 0) (t : Term) (ts : List Term) → P (terms_out p names ts) → P (t ∷ terms_out p names ts) → P (terms_out p names (t ∷ ts))
  out_of P t ts a b = go (is_in nat_eq t.name names)
    where
      go : (b : Bool) → P (if b then terms_out p names ts else t ∷ terms_out p names ts)
      go true = a
      go false = b

  kept_of : (P : List Term → Type 0) (t : Term) (ts : List Term) → P (terms_kept p names ts) → P (multiplied t ∷ terms_kept p names ts) → P (terms_kept p names (t ∷ ts))
  kept_of P t ts a b = go (is_in nat_eq t.name names)
    where
      go : (b : Bool) → P (if b then multiplied t ∷ terms_kept p names ts else terms_kept p names ts)
      go true = b
      go false = a

  above_out : (x : ℕ) (ts : List Term) → AllAbove x ts → AllAbove x (terms_out p names ts)
  above_out x [] a = tt
  above_out x (t ∷ ts) a = let r = above_out x ts a.1 in out_of (AllAbove x) t ts r (a.0, r)

  rising_out : (ts : List Term) → IsRising ts → IsRising (terms_out p names ts)
  rising_out [] a = tt
  rising_out (t ∷ ts) a = let r = rising_out ts a.1 in out_of IsRising t ts r (above_out t.name ts a.0, r)

  nonzero_out : (ts : List Term) → AllNonzero ts → AllNonzero (terms_out p names ts)
  nonzero_out [] a = tt
  nonzero_out (t ∷ ts) a = let r = nonzero_out ts a.1 in out_of AllNonzero t ts r (a.0, r)

  limit_out : (ts : List Term) → AllInLimit ts → AllInLimit (terms_out p names ts)
  limit_out [] a = tt
  limit_out (t ∷ ts) a = let r = limit_out ts a.1 in out_of AllInLimit t ts r (a.0, r)

  pub out_linear : (f : Form) → IsLinear f → IsLinear (record { terms = terms_out p names f.terms; constant = f.constant })
  out_linear f l = record {
    sorted = record { rising = rising_out f.terms l.sorted.rising; nonzero = nonzero_out f.terms l.sorted.nonzero };
    within = limit_out f.terms l.within;
    constant_within = l.constant_within;
  }

  above_kept : (x : ℕ) (ts : List Term) → AllAbove x ts → AllAbove x (terms_kept p names ts)
  above_kept x [] a = tt
  above_kept x (t ∷ ts) a = let r = above_kept x ts a.1 in kept_of (AllAbove x) t ts r (a.0, r)

  rising_kept : (ts : List Term) → IsRising ts → IsRising (terms_kept p names ts)
  rising_kept [] a = tt
  rising_kept (t ∷ ts) a = let r = rising_kept ts a.1 in kept_of IsRising t ts r (above_kept t.name ts a.0, r)

  nonzero_kept : ¬ (pos p.below ≡ pos 0) → (ts : List Term) → AllNonzero ts → AllNonzero (terms_kept p names ts)
  nonzero_kept z [] a = tt
  nonzero_kept z (t ∷ ts) a = let r = nonzero_kept z ts a.1 in kept_of AllNonzero t ts r (λ e. a.0 (cancel (pos p.below) z (e ∙ sym (mul_zero (pos p.below)))), r)

  limit_tested : (ts : List Term) → all_within ts ≡ true → AllInLimit ts
  limit_tested [] e = tt
  limit_tested (t ∷ ts) e = ((within_tests t.times).0 (and_left (is_within t.times) (all_within ts) e), limit_tested ts (and_right (is_within t.times) (all_within ts) e))

  pub kept_linear : (f : Form) (k : ℤ) → IsLinear f → ¬ (pos p.below ≡ pos 0) → kept_within p names f.terms ≡ true → InLimit k → IsLinear (record { terms = terms_kept p names f.terms; constant = k })
  kept_linear f k l z w i = record {
    sorted = record { rising = rising_kept f.terms l.sorted.rising; nonzero = nonzero_kept z f.terms l.sorted.nonzero };
    within = limit_tested (terms_kept p names f.terms) w;
    constant_within = i;
  }

  -- ---- the number that the others become

  out_total : (ts : List Term) → total (terms_out p names ts) p.at ≡ terms_put p names ts
  out_total [] = refl
  out_total (t ∷ ts) = go (is_in nat_eq t.name names) (out_total ts)
    where
      go : (b : Bool) → total (terms_out p names ts) p.at ≡ terms_put p names ts →
          total (if b then terms_out p names ts else t ∷ terms_out p names ts) p.at ≡ (if b then terms_put p names ts else t.times *ℤ p.at t.name +ℤ terms_put p names ts)
      go true h = h
      go false h = ap (λ z. t.times *ℤ p.at t.name +ℤ z) h

  -- the terms that become a number, and the constant
  abbrev pub others : Form → Form
  others f = record { terms = terms_out p names f.terms; constant = f.constant }

  pub others_are : (f : Form) (ts : List Term) (k : ℤ) → ts ≡ terms_out p names f.terms → k ≡ f.constant → record { terms = ts; constant = k } ≡ others f
  others_are f ts k e h = λ i. record { terms = e i; constant = h i }

  pub put_is : (f : Form) (n : ℤ) → n ≡ value (others f) p → record { terms = terms_kept p names f.terms; constant = n } ≡ form_put p names f
  unfolding value
  put_is f n e =
      let k : n ≡ terms_put p names f.terms +ℤ f.constant *ℤ pos p.below = e ∙ ap (λ z. z +ℤ f.constant *ℤ pos p.below) (out_total f.terms) in
      λ i. record { terms = terms_kept p names f.terms; constant = k i }

-- what the steps of a value give is within the limit
pub value_within : (f : Form) (at : ℕ → ℤ) (d n : ℤ) → Some n ≡ value_steps f at d → InLimit n
value_within f at d n e = go (total_steps (pos 0) f.terms at) refl
  where
    go : (o : Option ℤ) → total_steps (pos 0) f.terms at ≡ o → InLimit n
    go None t = let x : Some n ≡ None = e ∙ value_total_none f at d t in absurd (cc)
    go (Some m) t =
        by_limit (f.constant *ℤ d)
        (λ h k. let c = checked_some (m +ℤ f.constant *ℤ d) n (sym (e ∙ value_last f at d m t k)) in subst InLimit c.0 c.1)
        (λ h k. let x : Some n ≡ None = e ∙ value_product_none f at d m t k in absurd (cc))

pub same_below : (v : Numbers) (d : ℤ) → d ≡ v.denominator → pos 0 <ℤ d → d ≡ pos (point_of v).below
same_below v d e h = omega (arith, ints)

module _ (v : Numbers) (positive : pos 0 <ℤ v.denominator) where
  pub below_is : v.denominator ≡ pos (point_of v).below
  below_is = omega (arith, ints)

  pub below_not_zero : ¬ (pos (point_of v).below ≡ pos 0)
  below_not_zero e = absurd (omega (arith, ints, e, below_is))

  module _ (names : List ℕ) (f : Form) where
    steps_same : (o : Option ℤ) → o ≡ value_steps (others (point_of v) names f) (number_at v) v.denominator → value_steps (others (point_of v) names f) (number_at v) (pos (point_of v).below) ≡ o
    steps_same o e = sym (e ∙ ap (value_steps (others (point_of v) names f) (number_at v)) below_is)

    pub form_is_put : (n : ℤ) → Some n ≡ value_steps (others (point_of v) names f) (number_at v) v.denominator → n ≡ value (others (point_of v) names f) (point_of v) → kept_within (point_of v) names f.terms ≡ true →
        IsFormPut (point_of v) names f (record { terms = terms_kept (point_of v) names f.terms; constant = n })
    form_is_put n e k w = record {
      form = put_is (point_of v) names f n k;
      within = both_true _ _ (ap is_some (steps_same (Some n) e)) w;
    }

    pub value_refused : None ≡ value_steps (others (point_of v) names f) (number_at v) v.denominator → form_put_within (point_of v) names f ≡ false
    value_refused e = first_false _ (kept_within (point_of v) names f.terms) (ap is_some (steps_same None e))

-- an error that says why is passed on
pub refused : {A : Type 0} (r : Result A PointError) (e : PointError) (P : A → Type 0) (within : Bool) → r ≡ Err e → Fails e within → MatchResult r P (λ x. Fails x within)
refused r e P within h k = subst (λ q. MatchResult q P (λ x. Fails x within)) (sym h) k
