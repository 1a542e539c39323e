-- Worked examples of the definitions, by hand.
use Rattle.std.proofs.Common.{◌≡◌, inl, inr, ℕ, List, [], ◌∷◌, ap, sym, ◌∙◌, refl, arith}
use Rattle.std.proofs.Math.IntN.{ℤ, pos, negsuc}
use Rattle.std.proofs.lemmas.Int.{ints}
use Rattle.logic_meaning.specs.Form.{Form, coefficient, combine}
use Rattle.logic_meaning.specs.Sorted.{gathered}
use Rattle.formula_laws.proofs.Gathered.{coefficient_gathered}
use Rattle.logic_meaning.specs.Constraints.{Bound, Equal, AtMost, Below, Constraint}
use Rattle.logic_meaning.specs.Farkas.{nothing, AreAllowed, sum_from, IsFarkas}

-- a * x + c
abbrev x : ℤ → ℤ → Form
x a c = record { terms = record { times = a; name = 0 } ∷ []; constant = c }

abbrev number : ℤ → Form
number c = record { terms = []; constant = c }

abbrev constraint : Form → Bound → Constraint
constraint f b = record { form = f; bound = b }

-- a form without names has no coefficients
no_names_of : (f : Form) (c : ℤ) → gathered f ≡ number c → (y : ℕ) → coefficient y f ≡ pos 0
unfolding coefficient
no_names_of f c e y = sym (coefficient_gathered y f) ∙ ap (λ (g : Form). coefficient y g) e

-- ---- x >= 1 and x <= 0

abbrev apart : List Constraint
apart = constraint (x (negsuc 0) (pos 1)) AtMost ∷ constraint (x (pos 1) (pos 0)) AtMost ∷ []

-- 1 * (1 - x) + 1 * x is 1,
apart_sum : gathered (sum_from nothing apart (pos 1 ∷ pos 1 ∷ [])) ≡ number (pos 1)
unfolding gathered sum_from combine
apart_sum = refl

apart_constant : (sum_from nothing apart (pos 1 ∷ pos 1 ∷ [])).constant ≡ pos 1
unfolding sum_from combine
apart_constant = refl

apart_is_refuted : IsFarkas apart (pos 1 ∷ pos 1 ∷ [])
apart_is_refuted = record {
  allowed = (omega (arith, ints), (omega (arith, ints), tt));
  no_names = no_names_of (sum_from nothing apart (pos 1 ∷ pos 1 ∷ [])) (pos 1) apart_sum;
  constant = inl (let e = apart_constant in omega (arith, ints));
}

-- and 1 * (1 - x) + 0 * x has the name x
apart_first : (sum_from nothing apart (pos 1 ∷ pos 0 ∷ [])).constant ≡ pos 1
unfolding sum_from combine
apart_first = refl

apart_first_names : coefficient 0 (sum_from nothing apart (pos 1 ∷ pos 0 ∷ [])) ≡ negsuc 0
unfolding coefficient sum_from combine
apart_first_names = refl

apart_needs_both : ¬ (IsFarkas apart (pos 1 ∷ pos 0 ∷ []))
apart_needs_both h = let e = apart_first_names in let f = h.no_names 0 in omega (arith, ints)

-- ---- x - 1 = 0 and x <= 0: the multiplier of an equation may be negative

abbrev fixed : List Constraint
fixed = constraint (x (pos 1) (negsuc 0)) Equal ∷ constraint (x (pos 1) (pos 0)) AtMost ∷ []

fixed_sum : gathered (sum_from nothing fixed (negsuc 0 ∷ pos 1 ∷ [])) ≡ number (pos 1)
unfolding gathered sum_from combine
fixed_sum = refl

fixed_is_allowed : AreAllowed fixed (negsuc 0 ∷ pos 1 ∷ [])
fixed_is_allowed = (tt, (omega (arith, ints), tt))

-- that of an inequality not, and there is one for each
not_allowed : (¬ (AreAllowed apart (negsuc 0 ∷ pos 1 ∷ []))) × (¬ (AreAllowed apart (pos 1 ∷ [])))
not_allowed = (λ h. let k = h.0 in omega (arith, ints), λ h. h.1)

-- ---- 0 is refuted by a strict constraint alone

abbrev zero : Bound → List Constraint
zero b = constraint (x (negsuc 0) (pos 0)) AtMost ∷ constraint (x (pos 1) (pos 0)) b ∷ []

zero_sum : (b : Bound) → gathered (sum_from nothing (zero b) (pos 1 ∷ pos 1 ∷ [])) ≡ number (pos 0)
unfolding gathered sum_from combine
zero_sum b = refl

zero_constant : (b : Bound) → (sum_from nothing (zero b) (pos 1 ∷ pos 1 ∷ [])).constant ≡ pos 0
unfolding sum_from combine
zero_constant b = refl

-- x >= 0 and x < 0
strict_is_refuted : IsFarkas (zero Below) (pos 1 ∷ pos 1 ∷ [])
strict_is_refuted = record {
  allowed = (omega (arith, ints), (omega (arith, ints), tt));
  no_names = no_names_of (sum_from nothing (zero Below) (pos 1 ∷ pos 1 ∷ [])) (pos 0) (zero_sum Below);
  constant = inr (zero_constant Below, inr (inl (omega (arith, ints))));
}

-- x >= 0 and x <= 0
weak_is_not : ¬ (IsFarkas (zero AtMost) (pos 1 ∷ pos 1 ∷ []))
weak_is_not h =
    elim h.constant [
      | inl k ↦ let e = zero_constant AtMost in omega (arith, ints)
      | inr k ↦ elim k.1 [ inl a ↦ a | inr r ↦ elim r [ inl a ↦ a | inr n ↦ n ] ]
    ]

-- ---- 0 <= 0 and no constraint refute nothing

none_is_not : ¬ (IsFarkas [] [])
unfolding sum_from
none_is_not h = elim h.constant [ inl k ↦ omega (arith, ints) | inr k ↦ k.1 ]
