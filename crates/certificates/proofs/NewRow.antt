-- The new row of two rows, as the program forms it: its factors are those of the definition, and so is what it adds and what passes the limit.
use Rattle.std.proofs.Common.{◌≡◌, ◌⊎◌, inl, inr, ℕ, true, false, Bool, ◌&&◌, ◌||◌, refl, sym, ap, ap₂, ◌∙◌, arith, ⊎_elim}
use Rattle.std.proofs.Math.IntN.{ℤ, pos, neg_ℤ, ◌-ℤ◌}
use Rattle.std.specs.Prelude.{int_div}
use Rattle.std.specs.Int.{w128, cast_signed, cast_unsigned}
use Rattle.std.proofs.lemmas.Int.{ints, to_z-of_z}
use Rattle.exact_numbers.specs.Limit.{InLimit}
use Rattle.exact_numbers.specs.Divides.{gcd_of}
use Rattle.exact_numbers.proofs.Casts.{fits}
use Rattle.exact_numbers.proofs.Limits.{limit_neg}
use Rattle.logic_meaning.specs.Combining.{CombinesWithin, CombinePasses}
use Rattle.logic_meaning.specs.Form.{combine}
use Rattle.logic_meaning.specs.Limits.{combination_within}
use Rattle.logic_meaning.specs.Sorted.{gathered}
use Rattle.elimination_theory.proofs.WithinTests.{combination_refused, combination_tested}
use Rattle.logic_meaning.specs.Rows.{Row, Pair, upper_factor, lower_factor, joined, pair_within}

-- a number from its bits, and one with the other sign
abbrev pub bits : ℤ → ℤ
bits z = cast_signed w128 (cast_unsigned w128 z)

whole : (a c : ℤ) → a ≡ c → InLimit a → bits a ≡ c
whole a c e h = to_z-of_z w128 a (fits a h) ∙ e

pub turned : (b d : ℤ) → b ≡ d → InLimit b → bits (pos 0 -ℤ bits b) ≡ neg_ℤ d
turned b d f h =
    let k : pos 0 -ℤ bits b ≡ neg_ℤ b = let m = to_z-of_z w128 b (fits b h) in omega (arith, ints, m) in
    ap bits k ∙ to_z-of_z w128 (neg_ℤ b) (fits (neg_ℤ b) (limit_neg b h)) ∙ ap neg_ℤ f

module _ (a b c d : ℤ) (e : a ≡ c) (f : b ≡ d) (ha : InLimit a) (hb : InLimit b) where
  -- the factors that the program calculates
  pub factors_are : (u l : ℤ) → u ≡ int_div (bits (pos 0 -ℤ bits b)) (gcd_of (bits a) (bits (pos 0 -ℤ bits b))) → l ≡ int_div (bits a) (gcd_of (bits a) (bits (pos 0 -ℤ bits b))) →
      (u ≡ int_div (neg_ℤ d) (gcd_of c (neg_ℤ d))) × (l ≡ int_div c (gcd_of c (neg_ℤ d)))
  factors_are u l h k =
      let w = whole a c e ha in
      let t = turned b d f hb in
      (h ∙ ap₂ int_div t (ap₂ gcd_of w t), k ∙ ap₂ int_div w (ap₂ gcd_of w t))

-- a conjunction of which one is false
both_refused : (a b : Bool) → (a ≡ false) ⊎ (b ≡ false) → (a && b) ≡ false
both_refused true true h = ⊎_elim (λ e. e) (λ e. e) h
both_refused true false h = refl
both_refused false b h = refl

both_pass : (a b : Bool) → a ≡ true → b ≡ true → (a && b) ≡ true
both_pass a b e f = ap₂ (λ x y. x && y) e f

module _ (x : ℕ) (pair : Pair) (u l : ℤ) (eu : u ≡ upper_factor x pair) (el : l ≡ lower_factor x pair) where
  -- with these factors
  abbrev with_factors : ℤ → ℤ → Row
  with_factors u l = record {
    form = gathered (combine u pair.upper.form l pair.lower.form);
    strict = pair.upper.strict || pair.lower.strict;
    multipliers = gathered (combine u pair.upper.multipliers l pair.lower.multipliers);
  }

  pub joined_is : (r : Row) → r ≡ with_factors u l → r ≡ joined x pair
  joined_is r e = e ∙ ap₂ with_factors eu el

  abbrev test : ℤ → ℤ → Bool
  test u l = combination_within u pair.upper.form l pair.lower.form && combination_within u pair.upper.multipliers l pair.lower.multipliers

  pub within_is : CombinesWithin u pair.upper.form l pair.lower.form × CombinesWithin u pair.upper.multipliers l pair.lower.multipliers → pair_within x pair ≡ true
  within_is h =
      ap₂ test (sym eu) (sym el)
      ∙ both_pass (combination_within u pair.upper.form l pair.lower.form) (combination_within u pair.upper.multipliers l pair.lower.multipliers)
      (combination_tested u pair.upper.form l pair.lower.form h.0) (combination_tested u pair.upper.multipliers l pair.lower.multipliers h.1)

  pub refused_is : CombinePasses u pair.upper.form l pair.lower.form ⊎ CombinePasses u pair.upper.multipliers l pair.lower.multipliers → pair_within x pair ≡ false
  refused_is h =
      ap₂ test (sym eu) (sym el)
      ∙ both_refused (combination_within u pair.upper.form l pair.lower.form) (combination_within u pair.upper.multipliers l pair.lower.multipliers) (elim h [
        | inl k ↦ inl (combination_refused u pair.upper.form l pair.lower.form k)
        | inr k ↦ inr (combination_refused u pair.upper.multipliers l pair.lower.multipliers k)
      ])
