-- The difference of a term and 0.
use Rattle.std.proofs.Common.{rules, ◌≡◌, inl, ⊎_elim, ℕ, List, [], Some, None, ap, sym, ◌∙◌, subst, refl, arith}
use Rattle.std.proofs.Math.IntN.{ℤ, pos, negsuc, ◌+ℤ◌, ◌*ℤ◌}
use Rattle.std.specs.Prelude.{◌<ℤ◌, int_div, unsigned_abs, Result, Ok, Err, Option}
use Rattle.std.specs.Option.{ForSome}
use Rattle.std.proofs.lemmas.Int.{ints}
use native.Mathlib.Nat.{mod-one}
use Rattle.exact_numbers.specs.Limit.{InLimit}
use Rattle.exact_numbers.specs.Divides.{lcm_of, gcd_of, euclid}
use Rattle.exact_numbers.specs.Frac.{whole_frac}
use Rattle.exact_numbers.proofs.Ring.{one_mul, mul_one, mul_zero, zero_mul}
use Rattle.logic_meaning.specs.Point.{Point}
use Rattle.logic_meaning.specs.Combining.{AddWithin}
use Rattle.logic_meaning.specs.Sorted.{IsSorted}
use Rattle.formula_laws.proofs.Sorted.{scale_sorted}
use Rattle.logic_meaning.specs.Context.{Context}
use Rattle.logic_meaning.specs.Form.{Form, coefficient, scale, value}
use Rattle.linear_forms.specs.Combinations.{IsLinear, IsCombination}
use Rattle.linear_forms.proofs.Reduced.{quotient_is}
use Rattle.linear_forms.proofs.Quotients.{one_quotient}
use Rattle.language_meaning.specs.declared.tree.Literal.TheVariants.{Fits}
use Rattle.language_meaning.specs.Trees.{TermTree, Number}
use Rattle.language_meaning.specs.FractionRule.{◌>>=◌}
use Rattle.language_meaning.specs.RationalForms.{RationalForm, Missing, constant_form, formed, formed_difference, sum_of_forms, opposite_form}
use Rattle.resolved_formulas.specs.LowestForms.{IsLowestForm}
use Rattle.resolved_formulas.proofs.LowestForms.{form_is_lowest}
use Rattle.written_atoms.specs.declared.rational.Rational.{Rational}
use Rattle.written_atoms.specs.declared.term.ReadTerm.{ReadTerm}
use Rattle.written_atoms.specs.Rational.{rational_of, there, Shows}
use Rattle.written_atoms.specs.Term.{IsTermRead, IsDifferenceRead}
use Rattle.written_atoms.proofs.Formed.{coefficient_within}
use Rattle.written_atoms.proofs.Readings.{some_there}
use Rattle.written_atoms.proofs.Steps.{AreSummed, sum_gives, lowest_already}

abbrev nothing : RationalForm
nothing = opposite_form (constant_form (whole_frac (pos 0)))

gcd_one : (d : ℤ) → gcd_of d (pos 1) ≡ pos 1
unfolding gcd_of euclid
gcd_one d = ap (λ k. pos (euclid 1 1 k)) (mod-one (unsigned_abs d))

lcm_one : (d : ℤ) → d ≡ lcm_of d (pos 1)
unfolding lcm_of
lcm_one d = sym (ap (λ g. int_div d g *ℤ pos 1) (gcd_one d) ∙ ap (λ k. k *ℤ pos 1) (one_quotient d) ∙ mul_one d)

self_quotient : (d : ℤ) → pos 0 <ℤ d → int_div d d ≡ pos 1
self_quotient d h = sym (quotient_is d (pos 1) d (λ (e : d ≡ pos 0). omega (arith, ints)) (mul_one d))

no_product : (d z : ℤ) → z ≡ pos 0 → d *ℤ z ≡ pos 0
no_product d z e = ap (λ y. d *ℤ y) e ∙ mul_zero d

alone : (a d z : ℤ) → z ≡ pos 0 → a ≡ pos 1 *ℤ a +ℤ d *ℤ z
alone a d z e = let s = one_mul a in let t = no_product d z e in omega (arith, ints)

alone_within : (a d z : ℤ) → z ≡ pos 0 → InLimit a → AddWithin (pos 1 *ℤ a) (d *ℤ z)
alone_within a d z e h = record {
  first = subst (λ (y : ℤ). InLimit y) (sym (one_mul a)) h;
  second = subst (λ (y : ℤ). InLimit y) (sym (no_product d z e)) (let zero_within : InLimit (pos 0) = omega arith in zero_within);
  sum = subst (λ (y : ℤ). InLimit y) (alone a d z e) h;
}

no_coefficient : (x : ℕ) → coefficient x nothing.form ≡ pos 0
unfolding coefficient scale
no_coefficient x = refl

no_constant : nothing.form.constant ≡ pos 0
unfolding scale
no_constant = mul_zero (negsuc 0)

no_value : (p : Point ℕ) → value nothing.form p ≡ pos 0
unfolding value scale
no_value p = ap (λ c. pos 0 +ℤ c *ℤ pos p.below) (mul_zero (negsuc 0)) ∙ ap (λ c. pos 0 +ℤ c) (zero_mul (pos p.below))

combined : (d : ℤ) (f : Form) → IsLinear f → IsCombination (pos 1) f d nothing.form f
combined d f l = record {
  linear = l;
  coefficients_add = λ x. alone (coefficient x f) d (coefficient x nothing.form) (no_coefficient x);
  constants_add = alone f.constant d nothing.form.constant no_constant;
  values_add = λ p. alone (value f p) d (value nothing.form p) (no_value p);
  within = record {
    places = λ x. alone_within (coefficient x f) d (coefficient x nothing.form) (no_coefficient x) (coefficient_within x f l.sorted.rising (record { terms = l.within; constant = l.constant_within }));
    constants = alone_within f.constant d nothing.form.constant no_constant l.constant_within;
  };
}

nothing_sorted : IsSorted nothing.form
unfolding scale
nothing_sorted = scale_sorted (negsuc 0) (record { terms = []; constant = pos 0 }) (λ (e : negsuc 0 ≡ pos 0). omega (arith, ints)) (search rules)

minus_nothing : (v : Rational) → IsLinear v.form → IsLowestForm (rational_of v) → there (sum_of_forms (rational_of v) nothing) ≡ Some (rational_of v)
minus_nothing v l lowest =
    let d = v.denominator in
    let s : AreSummed (rational_of v) nothing = record { first_sorted = l.sorted; second_sorted = nothing_sorted; first_positive = v.positive; second_positive = omega (arith, ints) } in
    let c = subst (λ (a : ℤ). IsCombination a v.form (int_div d (pos 1)) nothing.form v.form) (sym (self_quotient d v.positive)) (combined (int_div d (pos 1)) v.form l) in
    sum_gives (rational_of v) nothing d (lcm_one d) s v.within v.form c ∙ ap Some (sym (lowest_already d v.form (pos 1) (sym lowest) refl))

none_stays : (r : Result RationalForm Missing) (k : RationalForm → Result RationalForm Missing) → Shows None r → Shows None (r >>= k)
none_stays (Ok v) k e = absurd (let no : ⊥ = cc in no)
none_stays (Err m) k e = refl

shows_difference : (c : Context) (number : List ℕ → ℕ) (s : TermTree) (o : Option Rational) → Shows o (formed c number s) → ForSome o (λ v. IsLinear v.form) → Shows o (formed_difference c number s (Number (Fits (pos 0))))
shows_difference c number s None e l = none_stays (formed c number s) _ e
shows_difference c number s (Some v) e l =
    let there_is = some_there v (formed c number s) e in
    sym (ap (λ r. there (r >>= λ p. sum_of_forms p nothing)) there_is ∙ minus_nothing v (l v refl) (form_is_lowest c number s (rational_of v) there_is))

-- a term from which 0 is taken away
pub nothing_taken : (c : Context) (number : List ℕ → ℕ) (s : TermTree) (r : ReadTerm) → IsTermRead c number s r → ForSome r.form (λ v. IsLinear v.form) → IsDifferenceRead c number s (Number (Fits (pos 0))) r
nothing_taken c number s r t l = record {
  form = shows_difference c number s r.form t.form l;
  nonlinear = (λ h. inl (t.nonlinear.0 h), ⊎_elim t.nonlinear.1 (λ k. absurd k));
  division = (λ h. inl (t.division.0 h), ⊎_elim t.division.1 (λ k. absurd k));
}
