-- The index of the values found.
use Rattle.std.proofs.Common.{◌≡◌, ◌++◌, ℕ, Bool, true, false, cond, List, [], ◌∷◌, Option, Some, refl, ap, sym, ◌∙◌, nat_eq, nat_cmp, is_eq, arith, if◌then◌else◌}
use Rattle.std.proofs.Math.IntN.{pos}
use Rattle.std.specs.Prelude.{unwrap_or, option_map}
use Rattle.std.specs.Map.{lookup}
use Rattle.std.proofs.lemmas.List.{reverse-append}
use Rattle.std.proofs.lemmas.Bool.Decides.{nat_tests}
use Rattle.exact_numbers.specs.declared.fraction.Fraction.{Fraction}
use Rattle.exact_numbers.specs.Frac.{whole_frac}
use Rattle.exact_numbers.specs.Fraction.{frac_of}
use Rattle.logic_meaning.specs.declared.form.VarId.{VarId}
use Rattle.sample_reference.specs.Seen.{value_of, values_of}
use Rattle.logic_meaning.specs.Bounds.{value_among}
use Rattle.certificates.specs.Found.{found_of, value_in, IsIndex}

same_test : (x k : ℕ) → is_eq (nat_cmp x k) ≡ nat_eq x k
same_test x k = grind (arith, nat_tests)

lookups_agree : (x : ℕ) (es : List (ℕ × Fraction)) → lookup (λ k. is_eq (nat_cmp x k)) es ≡ lookup (nat_eq x) es
lookups_agree x [] = refl
lookups_agree x (e ∷ es) = ap (λ b. cond b (Some e.1) (lookup (λ k. is_eq (nat_cmp x k)) es)) (same_test x e.0) ∙ ap (cond (nat_eq x e.0) (Some e.1)) (lookups_agree x es)

-- what the map has for a name, 0 where it has nothing, is its value
pub looked_up : (x : ℕ) (es : List (ℕ × Fraction)) (o : Option Fraction) → o ≡ lookup (λ k. is_eq (nat_cmp x k)) es → unwrap_or (option_map frac_of o) (whole_frac (pos 0)) ≡ value_in es x
looked_up x es o e = ap (λ p. unwrap_or (option_map frac_of p) (whole_frac (pos 0))) (e ∙ lookups_agree x es)

chosen : (b : Bool) (v : Fraction) (o : Option Fraction) → unwrap_or (option_map frac_of (cond b (Some v) o)) (whole_frac (pos 0)) ≡ (if b then frac_of v else unwrap_or (option_map frac_of o) (whole_frac (pos 0)))
chosen true v o = refl
chosen false v o = refl

-- the value found last is the first
pub found_more : (list : List (VarId × Fraction)) (p : VarId × Fraction) → found_of (list ++ p ∷ []) ≡ value_of p ∷ found_of list
found_more list p = ap values_of (reverse-append list (p ∷ []))

-- the index with one value more
pub index_more : (list : List (VarId × Fraction)) (old new : List (ℕ × Fraction)) (name : VarId) (v : Fraction) → IsIndex list old →
    ((q : ℕ) → lookup (λ k. is_eq (nat_cmp q k)) new ≡ cond (is_eq (nat_cmp name.number q)) (Some v) (lookup (λ k. is_eq (nat_cmp q k)) old)) → IsIndex (list ++ (name, v) ∷ []) new
index_more list old new name v h u = record {
  same = λ x.
      sym (looked_up x new (lookup (λ k. is_eq (nat_cmp x k)) new) refl)
      ∙ ap (λ o. unwrap_or (option_map frac_of o) (whole_frac (pos 0))) (u x)
      ∙ chosen (is_eq (nat_cmp name.number x)) v (lookup (λ k. is_eq (nat_cmp x k)) old)
      ∙ ap (λ b. if b then frac_of v else unwrap_or (option_map frac_of (lookup (λ k. is_eq (nat_cmp x k)) old)) (whole_frac (pos 0))) (same_test name.number x)
      ∙ ap (λ a. if nat_eq name.number x then frac_of v else a) (looked_up x old (lookup (λ k. is_eq (nat_cmp x k)) old) refl ∙ h.same x)
      ∙ sym (ap (λ vs. value_among vs x) (found_more list (name, v)));
}
