-- Runs of numbers, and a multiple of a form's terms.
use Rattle.std.proofs.Common.{◌≡◌, inl, inr, ℕ, zero, suc, ◌<◌, ◌+◌, List, [], ◌∷◌, ◌++◌, ◌^◌, map, to_z, of_z, refl, sym, ap, ap₂, ◌∙◌, subst, arith, append_assoc}
use Rattle.std.proofs.Math.IntN.{ℤ, pos, neg_ℤ, ◌+ℤ◌, ◌-ℤ◌, ◌*ℤ◌}
use Rattle.std.specs.Int.{w128}
use Rattle.std.specs.Prelude.{◌<ℤ◌}
use Rattle.std.proofs.lemmas.Int.{ints}
use Rattle.std.proofs.lemmas.List.{map-append}
use Rattle.exact_numbers.specs.Limit.{InLimit, PastLimit}
use Rattle.exact_numbers.proofs.Ring.{mul_zero, zero_mul}
use Rattle.logic_meaning.specs.Form.{Form, coefficient, scale}
use Rattle.logic_meaning.specs.Combining.{CombinePasses, AddPasses}
use Rattle.formula_laws.proofs.Coefficients.{coefficient_scale}
use Rattle.formula_laws.proofs.Sorted.{sorted_determined, scale_sorted}
use Rattle.logic_meaning.specs.IntegersPoints.{signed, counted}
use Rattle.logic_meaning.specs.declared.side.Side.{Side}
use Rattle.exact_numbers.proofs.Casts.{read_back}
use Rattle.linear_forms.specs.Combinations.{IsLinear, IsCombination}

-- a number more
counted_last : (first n : ℕ) → counted first (suc n) ≡ counted first n ++ (first + n) ∷ []
counted_last first zero = let e : first ≡ first + 0 = omega arith in ap (λ k. k ∷ []) e
counted_last first (suc n) = let e : suc first + n ≡ first + suc n = omega arith in ap (λ l. first ∷ l) (counted_last (suc first) n ∙ ap (λ k. counted (suc first) n ++ k ∷ []) e)

pub counted_push : (first n : ℕ) → counted first (n + 1) ≡ counted first n ++ (first + n) ∷ []
counted_push first n = let e : n + 1 ≡ suc n = omega arith in ap (counted first) e ∙ counted_last first n

-- what was collected before, the run so far, and one more
pub run_more : {T P : Type 0} (g : T → P) (h : ℕ → P) (first n : ℕ) (before old new : List T) (t : T) → new ≡ old ++ t ∷ [] → g t ≡ h (first + n) →
    map g old ≡ map g before ++ map h (counted first n) → map g new ≡ map g before ++ map h (counted first (n + 1))
run_more g h first n before old new t e f r =
    ap (map g) e ∙ map-append g old (t ∷ []) ∙ ap₂ (λ l k. l ++ k ∷ []) r f ∙ append_assoc (map g before) (map h (counted first n)) (h (first + n) ∷ [])
    ∙ ap (λ l. map g before ++ l) (sym (map-append h (counted first n) ((first + n) ∷ [])) ∙ ap (map h) (sym (counted_push first n)))

-- ---- a multiple of a form's terms

coefficient_bare : (f g : Form) (y : ℕ) → g ≡ record { terms = f.terms; constant = pos 0 } → coefficient y g ≡ coefficient y f
unfolding coefficient
coefficient_bare f g y e = ap (λ (h : Form). coefficient y h) e

nothing_added : (a z : ℤ) → a +ℤ pos 0 *ℤ z ≡ a
nothing_added a z = let e = zero_mul z in omega (arith, ints)

constant_scaled : (a : ℤ) (g : Form) → (scale a g).constant ≡ a *ℤ g.constant
unfolding scale
constant_scaled a g = refl

pub scaled_is : (a b : ℤ) (g r : Form) → a ≡ b → pos 0 <ℤ b → IsLinear g → IsCombination a g (pos 0) g r → r ≡ scale b g
scaled_is a b g r e h l c =
    sorted_determined r (scale b g) c.linear.sorted (scale_sorted b g (λ (z : b ≡ pos 0). absurd (omega (arith, ints))) l.sorted)
    (λ y. c.coefficients_add y ∙ nothing_added (a *ℤ coefficient y g) (coefficient y g) ∙ ap (λ z. z *ℤ coefficient y g) e ∙ sym (coefficient_scale y b g))
    (c.constants_add ∙ nothing_added (a *ℤ g.constant) g.constant ∙ ap (λ z. z *ℤ g.constant) e ∙ sym (constant_scaled b g))

nothing_passes : (z : ℤ) → z ≡ pos 0 → ¬ (PastLimit z)
nothing_passes z e p = let q : PastLimit (pos 0) = subst PastLimit e p in absurd (omega arith)

pub scaled_passes : (a b : ℤ) (f g : Form) → a ≡ b → g ≡ record { terms = f.terms; constant = pos 0 } → CombinePasses a g (pos 0) g → (y : ℕ) × PastLimit (b *ℤ coefficient y f)
scaled_passes a b f g e d c = elim c.cause [
  | inl s ↦ (s.0, subst PastLimit (ap₂ (λ x y. x *ℤ y) e (coefficient_bare f g s.0 d)) (one (a *ℤ coefficient s.0 g) (coefficient s.0 g) s.1))
  | inr s ↦ absurd (none s)
]
  where
    one : (p z : ℤ) → AddPasses p (pos 0 *ℤ z) → PastLimit p
    one p z h = elim h.cause [
      | inl k ↦ k
      | inr k ↦ elim k [ inl m ↦ absurd (nothing_passes (pos 0 *ℤ z) (zero_mul z) m) | inr m ↦ subst PastLimit (nothing_added p z) m ]
    ]

    none : ¬ (AddPasses (a *ℤ g.constant) (pos 0 *ℤ g.constant))
    none h = let z : g.constant ≡ pos 0 = ap (λ (k : Form). k.constant) d in nothing_passes (a *ℤ g.constant) (ap (λ k. a *ℤ k) z ∙ mul_zero a) (one (a *ℤ g.constant) g.constant h)

-- ---- numbers as the program passes them on

pub passed_signed : (side : Side) (r a z : ℤ) → r ≡ signed side a → InLimit r → a ≡ z → to_z w128 (of_z w128 r) ≡ signed side z
passed_signed side r a z e w h = read_back r w ∙ e ∙ ap (signed side) h

small_within : (n : ℕ) → n < 2 ^ 64 → InLimit (pos n)
small_within n h = omega arith

-- one more than a number of 64 bits
pub passed_next : (f : ℤ) (n : ℕ) → f ≡ pos n → n < 2 ^ 64 → to_z w128 (of_z w128 (to_z w128 (of_z w128 f) +ℤ pos 1)) ≡ pos (1 + n)
passed_next f n e h =
    let a : to_z w128 (of_z w128 f) ≡ pos n = read_back f (subst InLimit (sym e) (small_within n h)) ∙ e in
    let b : to_z w128 (of_z w128 f) +ℤ pos 1 ≡ pos (1 + n) = omega (arith, ints) in
    read_back (to_z w128 (of_z w128 f) +ℤ pos 1) (subst InLimit (sym b) (omega arith)) ∙ b

pub passed_negative : (f : ℤ) (n : ℕ) → f ≡ pos n → n < 2 ^ 64 → to_z w128 (of_z w128 (pos 0 -ℤ to_z w128 (of_z w128 f))) ≡ neg_ℤ (pos n)
passed_negative f n e h =
    let a : to_z w128 (of_z w128 f) ≡ pos n = read_back f (subst InLimit (sym e) (small_within n h)) ∙ e in
    let b : pos 0 -ℤ to_z w128 (of_z w128 f) ≡ neg_ℤ (pos n) = omega (arith, ints) in
    read_back (pos 0 -ℤ to_z w128 (of_z w128 f)) (subst InLimit (sym b) (omega (arith, ints))) ∙ b

pub passed_sum : (a f : ℤ) (n : ℕ) → InLimit a → f ≡ pos n → n < 2 ^ 64 → InLimit (a +ℤ pos n) → to_z w128 (of_z w128 (to_z w128 (of_z w128 a) +ℤ to_z w128 (of_z w128 f))) ≡ a +ℤ pos n
passed_sum a f n wa e h w =
    let b : to_z w128 (of_z w128 f) ≡ pos n = read_back f (subst InLimit (sym e) (small_within n h)) ∙ e in
    let d = read_back a wa in
    let s : to_z w128 (of_z w128 a) +ℤ to_z w128 (of_z w128 f) ≡ a +ℤ pos n = ap₂ (λ x y. x +ℤ y) d b in
    read_back (to_z w128 (of_z w128 a) +ℤ to_z w128 (of_z w128 f)) (subst InLimit (sym s) w) ∙ s
