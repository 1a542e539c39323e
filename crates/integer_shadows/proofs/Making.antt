-- What is kept where forms are made of others.
use Rattle.std.proofs.Common.{◌≡◌, ℕ, Option, Some, None, MatchOption, IfSome, [], ◌∷◌, inl, inr, refl, sym, ap, ◌∙◌, subst, arith}
use Rattle.std.proofs.Math.IntN.{ℤ, pos, neg_ℤ, ◌+ℤ◌, ◌-ℤ◌, ◌*ℤ◌}
use Rattle.std.specs.Prelude.{◌<ℤ◌}
use Rattle.std.proofs.lemmas.Int.{ints}
use Rattle.std.proofs.lemmas.Bool.{cases_eq}
use Rattle.exact_numbers.specs.Divides.{Divides, residue_of}
use Rattle.exact_numbers.proofs.Ring.{ring, one_mul, mul_zero, zero_mul, mul_one}
use Rattle.logic_meaning.specs.Context.{Integers}
use Rattle.logic_meaning.specs.Point.{Point, Of}
use Rattle.logic_meaning.specs.Form.{Form, value, coefficient}
use Rattle.logic_meaning.specs.Reduction.{residue_form}
use Rattle.formula_laws.proofs.Sorted.{here, elsewhere}
use Rattle.linear_forms.specs.Combinations.{IsLinear, IsCombination}
use Rattle.linear_forms.proofs.Residues.{value_residue, multiple_residues}
use Rattle.integer_shadows.specs.Forms.{IsWithout, IsReduction, IsRaised}

-- what follows for the value of a `Some`
pub some_map : {X : Type 0} {P Q : X → Type 0} (o : Option X) → ((x : X) → P x → Q x) → IfSome o P → IfSome o Q
some_map None f h = tt
some_map (Some x) f h = f x h

pub some_at : {X : Type 0} (P : X → Type 0) {o : Option X} {x : X} → o ≡ Some x → IfSome o P → P x
some_at {X} P {o} {x} e h = subst (λ (v : Option X). IfSome v P) e h

pub some_from : {X : Type 0} (P : Type 0) (Q R : X → Type 0) (o : Option X) → ((x : X) → Q x → R x) → MatchOption o P Q → IfSome o R
some_from P Q R None f h = tt
some_from P Q R (Some x) f h = f x h

-- ---- without a name

abbrev pub name_form : ℕ → Form
name_form x = record { terms = record { times = pos 1; name = x } ∷ []; constant = pos 0 }

name_coefficient : (x : ℕ) → coefficient x (name_form x) ≡ pos 1
unfolding coefficient
name_coefficient x = here x (record { times = pos 1; name = x }) [] refl tt

other_coefficient : (x y : ℕ) → ¬ (x ≡ y) → coefficient y (name_form x) ≡ pos 0
unfolding coefficient
other_coefficient x y n = elsewhere y (record { times = pos 1; name = x }) [] n

name_number : (at b : ℤ) → (pos 1 *ℤ at +ℤ pos 0) +ℤ pos 0 *ℤ b ≡ at
name_number at b = let e = one_mul at in let g = zero_mul b in omega (arith, ints)

name_value : (x : ℕ) (p : Point ℕ) → value (name_form x) p ≡ p.at x
unfolding value
name_value x p = name_number (p.at x) (pos p.below)

gone_number : (c one s : ℤ) → one ≡ pos 1 → s ≡ pos 1 *ℤ c +ℤ neg_ℤ c *ℤ one → s ≡ pos 0
gone_number c one s e h = let g = ap (λ z. neg_ℤ c *ℤ z) e in let k = mul_one (neg_ℤ c) in let o = one_mul c in omega (arith, ints)

other_number : (c f v s : ℤ) → f ≡ pos 0 → v ≡ pos 0 → s ≡ pos 1 *ℤ f +ℤ neg_ℤ c *ℤ v → s ≡ pos 0
other_number c f v s e g h = let i = ap (λ z. neg_ℤ c *ℤ z) g in let k = mul_zero (neg_ℤ c) in let o = one_mul f in omega (arith, ints)

split_number : (c at f v r : ℤ) → v ≡ at → r ≡ pos 1 *ℤ f +ℤ neg_ℤ c *ℤ v → f ≡ c *ℤ at +ℤ r
split_number c at f v r e h =
    let i = ap (λ z. neg_ℤ c *ℤ z) e in
    let n : neg_ℤ c *ℤ at ≡ neg_ℤ (c *ℤ at) = simp ring (omega (arith, ints)) in
    let o = one_mul f in omega (arith, ints)

pub is_without : (x : ℕ) (f v r : Form) (c : ℤ) → c ≡ coefficient x f → v ≡ name_form x → IsCombination (pos 1) f (neg_ℤ c) v r → IsWithout x f r
is_without x f v r c e i h =
    let one : coefficient x v ≡ pos 1 = ap (coefficient x) i ∙ name_coefficient x in
    let g : coefficient x r ≡ pos 0 = gone_number c _ _ one (h.coefficients_add x ∙ ap (λ z. pos 1 *ℤ z +ℤ neg_ℤ c *ℤ coefficient x v) (sym e)) in
    record {
      linear = h.linear;
      gone = g;
      others = λ y z.
          elim (cases_eq x y) as (λ _. coefficient y r ≡ pos 0) [
            | inl s ↦ ap (λ (n : ℕ). coefficient n r) (sym s) ∙ g
            | inr n ↦ other_number c (coefficient y f) (coefficient y v) _ z (ap (coefficient y) i ∙ other_coefficient x y n) (h.coefficients_add y)
          ];
      value_splits = λ p.
          let s : value f p ≡ c *ℤ p.at x +ℤ value r p = split_number c (p.at x) (value f p) (value v p) _ (ap (λ (w : Form). value w p) i ∙ name_value x p) (h.values_add p) in
          s ∙ ap (λ z. z *ℤ p.at x +ℤ value r p) e;
    }

-- ---- modulo a number

residue_coefficient : (m : ℤ) → pos 0 <ℤ m → (y : ℕ) (f : Form) → IsLinear f → coefficient y (residue_form f m) ≡ residue_of (coefficient y f) m
unfolding coefficient residue_form
residue_coefficient m h y f l = multiple_residues m h y f.terms l.sorted.rising

pub is_reduction : (a b m : ℤ) (f g s r : Form) → pos 0 <ℤ m → IsCombination a f b g s → r ≡ residue_form s m → IsLinear r → IsReduction a f b g m r
is_reduction a b m f g s r hm h e l = record {
  linear = l;
  coefficients = λ y. ap (coefficient y) e ∙ residue_coefficient m hm y s h.linear ∙ ap (λ z. residue_of z m) (h.coefficients_add y);
  values = λ p. subst (λ z. Divides m (z -ℤ value r p)) (h.values_add p) (subst (λ (w : Form). Divides m (value s p -ℤ value w p)) (sym e) (value_residue m hm s p));
}

-- ---- a number more

raised_coefficient : (f : Form) (k : ℤ) (y : ℕ) → coefficient y (record { terms = f.terms; constant = k }) ≡ coefficient y f
unfolding coefficient
raised_coefficient f k y = refl

raised_number : (s c n w : ℤ) → w ≡ pos 1 → s +ℤ (c +ℤ n) *ℤ w ≡ (s +ℤ c *ℤ w) +ℤ n
raised_number s c n w e =
    let a = ap (λ z. (c +ℤ n) *ℤ z) e in let b = ap (λ z. c *ℤ z) e in
    let d = mul_one (c +ℤ n) in let g = mul_one c in omega (arith, ints)

raised_value : (f : Form) (n : ℤ) (p : Point ℕ) → Of Integers p → value (record { terms = f.terms; constant = f.constant +ℤ n }) p ≡ value f p +ℤ n
unfolding value
raised_value f n p o = raised_number _ f.constant n (pos p.below) (ap (λ m. pos m) o)

pub is_raised : (n k : ℤ) (f r : Form) → k ≡ f.constant +ℤ n → r ≡ record { terms = f.terms; constant = k } → IsLinear r → IsRaised n f r
is_raised n k f r e i l = record {
  linear = l;
  coefficients = λ y. ap (coefficient y) i ∙ raised_coefficient f k y;
  values = λ p o. ap (λ (w : Form). value w p) (i ∙ ap (λ z. record { terms = f.terms; constant = z }) e) ∙ raised_value f n p o;
}
