-- A form that is there has the value of its term.
use Rattle.std.proofs.Common.{◌≡◌, ◌<◌, ℕ, List, ap, sym, ◌∙◌, subst, refl, arith}
use Rattle.std.proofs.Math.IntN.{ℤ, pos, ◌+ℤ◌, ◌*ℤ◌}
use Rattle.std.specs.Prelude.{◌<ℤ◌, Ok}
use Rattle.std.proofs.lemmas.Int.{ints}
use Rattle.exact_numbers.specs.Frac.{whole_frac, negated}
use Rattle.logic_meaning.specs.Context.{Context}
use Rattle.logic_meaning.specs.Point.{Point}
use Rattle.logic_meaning.specs.Form as form
use Rattle.logic_meaning.specs.Form.{value as value_in}
use Rattle.language_meaning.specs.declared.tree.Literal.{Literal}
use Rattle.language_meaning.specs.declared.tree.Literal.TheVariants.{Fits, Past}
use Rattle.language_meaning.specs.Trees.{TermTree, Named}
use Rattle.language_meaning.specs.Value.{NamedPoint, HasName, literal_number, value}
use Rattle.written_syntax.proofs.ValueLaw.{value_proper}
use Rattle.language_meaning.specs.FractionRule.{by_rule}
use Rattle.language_meaning.specs.RationalForms.{RationalForm, constant_form, variable_form, literal_form, forms}
use Rattle.resolved_formulas.specs.ResolvedLaws.{Numbered, FormHasValue}
use Rattle.resolved_formulas.proofs.RuleLaw.{ok_same, KeepMeaning, rule_stands}
use Rattle.resolved_formulas.proofs.FormSteps.{Stands, constant_stands, plus_stands, times_stands, over_stands, power_stands, opposite_stands, stands_as}

pub below_positive : (p : NamedPoint) (q : Point ℕ) → 0 < p.below → q.below ≡ p.below → pos 0 <ℤ pos q.below
below_positive p q h e = subst (λ n. pos 0 <ℤ pos n) (sym e) (omega (arith, ints))

whole_stands : (q : Point ℕ) → pos 0 <ℤ pos q.below → (n : ℤ) → Stands q (constant_form (whole_frac n)) (whole_frac n)
whole_stands q h n = constant_stands q h (whole_frac n) (whole_frac n) (omega (arith, ints)) (omega (arith, ints)) refl

literal_stands : (q : Point ℕ) → pos 0 <ℤ pos q.below → (n : Literal) (v : RationalForm) → literal_form n ≡ Ok v → Stands q v (whole_frac (literal_number n))
literal_stands q h (Fits n) v e = subst (λ u. Stands q u (whole_frac n)) (ok_same _ _ e) (whole_stands q h n)
literal_stands q h Past v e = absurd (cc)

variable_value : (x : ℕ) (q : Point ℕ) → form.value (variable_form x).form q ≡ q.at x
unfolding value_in
variable_value x q = simple (q.at x) (pos q.below)
  where
    simple : (a b : ℤ) → (pos 1 *ℤ a +ℤ pos 0) +ℤ pos 0 *ℤ b ≡ a
    simple a b = omega (arith, ints)

variable_stands : (number : List ℕ → ℕ) (K : List ℕ → Type 0) (p : NamedPoint) (q : Point ℕ) → 0 < p.below → Numbered number K p q → (x : List ℕ) → K x → Stands q (variable_form (number x)) (value (Named x) p)
variable_stands number K p q h n x k =
    let same : q.at (number x) ≡ p.at x = n.same_at x k in
    let below : q.below ≡ p.below = n.same_below in record {
      sorted = record { rising = (tt, tt); nonzero = ((λ (e : pos 1 ≡ pos 0). omega (arith, ints)), tt) };
      positive = omega (arith, ints);
      meant = value_proper (Named x) p h;
      same = ap (λ a. a *ℤ pos p.below) (variable_value (number x) q ∙ same) ∙ ap (λ b. p.at x *ℤ b) (sym (ap pos below) ∙ one_times (pos q.below));
    }
  where
    one_times : (b : ℤ) → b ≡ pos 1 *ℤ b
    one_times b = omega (arith, ints)

pub forms_keep : (c : Context) (number : List ℕ → ℕ) (K : List ℕ → Type 0) (p : NamedPoint) (q : Point ℕ) → 0 < p.below → Numbered number K p q → KeepMeaning (forms c number) K p (Stands q)
forms_keep c number K p q h n =
    let b = below_positive p q h n.same_below in record {
      proper = λ v w s. s.meant;
      same = stands_as q b;
      number = literal_stands q b;
      name = λ x v k e. subst (λ u. Stands q u (value (Named x) p)) (ok_same _ _ e) (variable_stands number K p q h n x k);
      empty_sum = whole_stands q b (pos 0);
      empty_product = whole_stands q b (pos 1);
      plus = plus_stands q b;
      times = times_stands q b;
      over = over_stands c q b;
      power = power_stands q b;
      minus = λ a r v s e. subst (λ u. Stands q u (negated v)) (ok_same _ _ e) (opposite_stands q a v s);
    }

pub form_stands : (c : Context) (number : List ℕ → ℕ) (K : List ℕ → Type 0) (t : TermTree) (v : RationalForm) (p : NamedPoint) (q : Point ℕ) → 0 < p.below → Numbered number K p q → ((x : List ℕ) → HasName t x → K x)
    → by_rule (forms c number) t ≡ Ok v → Stands q v (value t p)
form_stands c number K t v p q h n k e = rule_stands (forms c number) K p h (Stands q) (forms_keep c number K p q h n) t v k e

pub form_has_value : FormHasValue
form_has_value c number t v e p q h n =
    let s = form_stands c number (HasName t) t v p q h n (λ x m. m) e in record { sorted = s.sorted; positive = s.positive; same = s.same }
